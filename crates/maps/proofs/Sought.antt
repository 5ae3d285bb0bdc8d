-- What the list did to the entry that is sought, and what the map did by that.
use Rattle.std.proofs.Common.{◌≡◌, List, set, ap, sym, ◌∙◌, subst, cond, option_map}
use Rattle.std.specs.Prelude.{Result, Ok, Err, Option, None, Some, IfNone, IfOk, IfSome}
use Rattle.std.specs.Prelude.{OnErr, OnOk}
use Rattle.std.specs.Ordering.{is_eq}
use Rattle.std.specs.Cmp.{IsTotalOrder}
use Rattle.std.specs.declared.cmp.Ordering.{Ordering}
use Rattle.std.proofs.lemmas.Option.{none-some, same_Some}
use Rattle.sequence.specs.Acts.{IsAbsent, IsAdded, IsReplaced, IsTaken, IsThere}
use Rattle.maps.specs.Maps.{IsRising, lookup, lookup_by, with_entry, without_by}
use Rattle.maps.specs.Queries.{IsForm, key_form}
use Rattle.maps.proofs.Cuts.{cut_found, cut_missed, sought, up_to}
use Rattle.maps.proofs.Lookup.{lookup_with}
use Rattle.maps.proofs.Rising.{rising_with}
use Rattle.maps.proofs.Under.{found_missing, found_there, with_found, with_missing}
use Rattle.maps.proofs.Under.{without_found, without_missing}

module _ {K V : Type 0} (cmp : K → K → Ordering) (total : IsTotalOrder cmp) (es new : List (K × V))
    (s : IsRising cmp es) where
  module _ (order : K → Ordering) (form : IsForm cmp order) where
    -- it was taken out, or was not there
    pub taken : (answer : Option (K × V)) → IfSome answer (IsTaken (sought order) (up_to order) es new)
        → IfNone answer ((new ≡ es) × IsAbsent (sought order) (up_to order) es)
        → (option_map (λ e. e.1) answer ≡ lookup_by order es) × (new ≡ without_by order es)
    taken None went was =
        let missing = cut_missed cmp order form total es s was.1.at was.1.cut was.1.missed in (
          sym (found_missing order es was.1.at missing (λ e. e.1)),
          was.0 ∙ sym (without_missing order es was.1.at missing),
        )
    taken (Some e) went was =
        let there = cut_found cmp order form total es s went.at e went.cut went.item went.found in
        let same = same_Some e there.entry (sym went.item ∙ there.is) in (
          ap (λ (x : K × V). Some x.1) same ∙ sym (found_there order es went.at there (λ e. e.1)),
          went.items ∙ sym (without_found order es went.at there),
        )

    -- a refusal says that there is a value
    pub has_value : IsThere (sought order) (up_to order) es → lookup_by order es ≡ None → ⊥
    has_value there none =
        let was = there.is in
        let found = cut_found cmp order form total es s there.at was.item was.cut was.is was.found in
        none-some found.entry.1 (sym none ∙ found_there order es there.at found (λ e. e.1))

module _ {K V : Type 0} (cmp : K → K → Ordering) (q : K) (v : V) (es new : List (K × V)) where
  -- what a map answers that has the value under the key
  pub record IsPut {E : Type 0} (r : Result (Option V) E) : Type 0 where
    pub rising : IsRising cmp new
    pub value : IfOk r (λ old. old ≡ lookup cmp q es)
    pub entries : OnOk r (new ≡ with_entry cmp q v es)
    pub changes : OnOk r ((k : K) → lookup cmp k new ≡ cond (is_eq (cmp k q)) (Some v) (lookup cmp k es))

  module _ (total : IsTotalOrder cmp) (s : IsRising cmp es) where
    -- it has it
    put_is : {E : Type 0} (old : Option V) → old ≡ lookup cmp q es → new ≡ with_entry cmp q v es
        → IsPut {E = E} (Ok old)
    put_is old value entries = record {
      rising = subst (IsRising cmp) (sym entries) (rising_with cmp total q v es s);
      value = value;
      entries = entries;
      changes = λ k. ap (lookup cmp k) entries ∙ lookup_with cmp total k q v es;
    }

    -- its value was replaced, or a new one was put in
    pub put : {E : Type 0} (r : Result (Option V) E)
        → IfOk r (λ a. IfSome a (IsReplaced (sought (cmp q)) (up_to (cmp q)) (λ e. (e.0, v)) (λ e. e.1) es new))
        → IfOk r (λ a. IfNone a (IsAdded (sought (cmp q)) (up_to (cmp q)) es new (q, v))) → OnErr r (new ≡ es)
        → IsPut r
    put (Ok None) was came refused =
        let missing = cut_missed cmp (cmp q) (key_form total q) total es s came.at came.cut came.missed in
        put_is None (sym (found_missing (cmp q) es came.at missing (λ e. e.1)))
        (came.items ∙ sym (with_missing cmp q es came.at missing v))
    put (Ok (Some old)) was came refused =
        let there = cut_found cmp (cmp q) (key_form total q) total es s was.at was.before was.cut was.item was.found in
        let same = same_Some was.before there.entry (sym was.item ∙ there.is) in
        put_is (Some old)
        (ap (λ (v : V). Some v) was.value ∙ ap (λ (e : K × V). Some e.1) same
        ∙ sym (found_there (cmp q) es was.at there (λ e. e.1)))
        (was.items ∙ ap (λ (e : K × V). set es was.at (e.0, v)) same ∙ sym (with_found cmp q es was.at there v))
    put (Err e) was came refused = record {
      rising = subst (IsRising cmp) (sym refused) s;
      value = tt;
      entries = tt;
      changes = tt;
    }
