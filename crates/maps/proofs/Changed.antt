-- A map after the list changed the entry that is sought.
use Rattle.std.proofs.Common.{◌≡◌, ℕ, List, set, ap, sym, ◌∙◌, subst, refl}
use Rattle.std.specs.Prelude.{Result, Ok, Err, Option, None, Some, IfNone, IfOk, IfSome, IsOk, OnErr}
use Rattle.std.specs.Borrow.{MutBor}
use Rattle.std.specs.Fn.{FnOnceReturnsAtMut, Once}
use Rattle.std.specs.Cmp.{IsTotalOrder}
use Rattle.std.specs.declared.cmp.Ordering.{Ordering}
use Rattle.std.proofs.lemmas.Option.{none-some, same_Some}
use Rattle.sequence.specs.Acts.{IsAbsent, IsChanged, IsThere}
use Rattle.sequence.specs.Acts.{IsFound as IsSought}
use Rattle.sequence.specs.Changes.{ChangesItem}
use Rattle.maps.specs.Changes.{ChangesValue}
use Rattle.maps.specs.Maps.{IsRising, lookup, with_entry}
use Rattle.maps.specs.Places.{IsFound}
use Rattle.maps.specs.Queries.{key_form}
use Rattle.maps.proofs.Cuts.{cut_found, cut_missed, sought, up_to}
use Rattle.maps.proofs.Lookup.{lookup_with}
use Rattle.maps.proofs.Rising.{rising_with}
use Rattle.maps.proofs.Under.{found_missing, found_there, with_found}

-- what a map answers whose value under the key is changed by a call
pub record IsModified {K V F A E : Type 0} (cmp : K → K → Ordering) (q : K) (es new : List (K × V))
    (g : Once F (MutBor V × Unit {0}) (A × (MutBor V × Unit {0}))) (f : F) (r : Result (Option A) E) : Type 0 where
  pub rising : IsRising cmp new
  pub absent : IfOk r (λ answer. IfNone answer ((lookup cmp q es ≡ None) × (new ≡ es)))
  pub changed : IfOk r (λ answer. IfSome answer (ChangesValue g f cmp q es new))
  pub none : lookup cmp q es ≡ None → IsOk r

module _ {K V : Type 0} (cmp : K → K → Ordering) (total : IsTotalOrder cmp) (q : K) (es new : List (K × V))
    (rises : IsRising cmp es) where
  -- the entry that is sought has the key
  key_found : (i : ℕ) → IsSought (sought (cmp q)) (up_to (cmp q)) es i → IsFound (cmp q) es i
  key_found i there =
      cut_found cmp (cmp q) (key_form total q) total es rises i there.item there.cut there.is there.found

  pub value_found : (i : ℕ) (there : IsSought (sought (cmp q)) (up_to (cmp q)) es i)
      → lookup cmp q es ≡ Some there.item.1
  value_found i there =
      let found = key_found i there in
      found_there (cmp q) es i found (λ e. e.1)
      ∙ ap (λ (e : K × V). Some e.1) (same_Some found.entry there.item (sym found.is ∙ there.is))

  module _ {F A : Type 0} (g : Once F (MutBor (K × V) × Unit {0}) (A × (MutBor (K × V) × Unit {0}))) (f : F) (a : A)
      (i : ℕ) (there : IsFound (cmp q) es i) (changed : ChangesItem g f i es new a) where
    same : there.entry ≡ changed.before
    same = same_Some there.entry changed.before (sym there.is ∙ changed.found)

    -- the value before was that of the key
    value_was : lookup cmp q es ≡ Some changed.before.1
    value_was = found_there (cmp q) es i there (λ e. e.1) ∙ ap (λ (e : K × V). Some e.1) same

    -- if the key of the entry stays, the value is written under it
    value_is : changed.after.0 ≡ changed.before.0 → new ≡ with_entry cmp q changed.after.1 es
    value_is stays =
        changed.items
        ∙ ap (λ (k : K). set es i (k, changed.after.1)) (stays ∙ ap (λ (e : K × V). e.0) (sym same))
        ∙ sym (with_found cmp q es i there changed.after.1)

  module _ {F H A E : Type 0} (g : Once F (MutBor (K × V) × Unit {0}) (A × (MutBor (K × V) × Unit {0}))) (f : F)
      (h : Once H (MutBor V × Unit {0}) (A × (MutBor V × Unit {0}))) (change : H)
      (keeps : (before after : K × V) (a : A) → FnOnceReturnsAtMut g f before a after
      → (after.0 ≡ before.0) × FnOnceReturnsAtMut h change before.1 a after.1) where
    -- a call that changes the value alone
    pub modified : (r : Result (Option A) E)
        → IfOk r (λ a. IfNone a ((new ≡ es) × IsAbsent (sought (cmp q)) (up_to (cmp q)) es))
        → IfOk r (λ a. IfSome a (IsChanged (sought (cmp q)) (up_to (cmp q)) g f es new))
        → OnErr r (IsThere (sought (cmp q)) (up_to (cmp q)) es) → OnErr r (new ≡ es)
        → IsModified cmp q es new h change r
    modified (Ok None) absent changed there refused =
        let at = absent.1.at in
        let missing = cut_missed cmp (cmp q) (key_form total q) total es rises at absent.1.cut absent.1.missed in
        record {
          rising = subst (IsRising cmp) (sym absent.0) rises;
          absent = (found_missing (cmp q) es at missing (λ e. e.1), absent.0);
          changed = tt;
          none = λ none. refl;
        }
    modified (Ok (Some a)) absent changed there refused =
        let did = changed.did in
        let found = key_found changed.at changed.there in
        let done = keeps did.before did.after a did.called in
        let entries = value_is g f a changed.at found did done.0 in
        record {
          rising = subst (IsRising cmp) (sym entries) (rising_with cmp total q did.after.1 es rises);
          absent = tt;
          changed = record {
            before = did.before.1;
            after = did.after.1;
            found = value_was g f a changed.at found did;
            called = done.1;
            entries = entries;
            changes = λ k. ap (lookup cmp k) entries ∙ lookup_with cmp total k q did.after.1 es;
          };
          none = λ none. refl;
        }
    modified (Err e) absent changed there refused =
        let found = key_found there.at there.is in
        record {
          rising = subst (IsRising cmp) (sym refused) rises;
          absent = tt;
          changed = tt;
          none = λ none. absurd (none-some found.entry.1
              (sym none ∙ found_there (cmp q) es there.at found (λ e. e.1)));
        }
