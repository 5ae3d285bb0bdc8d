-- What is done to a list at the last item before a cut.
use Rattle.std.proofs.Common.{◌≡◌, ◌+◌, ◌≤◌, ℕ, Bool, true, false, List, [], ◌∷◌, ◌++◌, length, take, drop, get_or, set}
use Rattle.std.proofs.Common.{refl, ap, sym, ◌∙◌, subst, add-one, arith, take-append-drop}
use Rattle.std.specs.List.{insert, remove}
use Rattle.std.specs.Prelude.{IfNone, IfSome, None, Option, Some, slice_get}
use Rattle.std.proofs.lemmas.List.{get_or_default}
use Rattle.std.proofs.lemmas.Option.{same_Some, slice_get_read}
use Rattle.std.specs.Borrow.{MutBor}
use Rattle.std.specs.Fn.{Once}
use Rattle.sequence.specs.Acts.{IsAbsent, IsActed, IsAdded, IsChanged, IsFound, IsMissed, IsMissing, IsReplaced}
use Rattle.sequence.specs.Acts.{IsTaken, changes, last_of, puts, takes}
use Rattle.sequence.specs.Cuts.{IsCut}
use Rattle.sequence.specs.Spots.{spliced}
use Rattle.sequence.proofs.Lists.Spliced.{come_in, remove_spliced, set_spliced}

-- the last of one more
last_is : {T : Type 0} (es : List T) (at : ℕ) → last_of (at + 1) es ≡ slice_get es at
last_is es at = ap (λ (n : ℕ). last_of n es) (add-one at)

-- none went
none : (at : ℕ) → at ≡ at + 0
none at = omega arith

module _ {T R : Type 0} (test : T → Bool) (does : Option R → Option T → List T → Type 0) (es : List T) (at : ℕ) where
  module _ (cut : IsCut test es at) where
    -- nothing was changed
    pub acted_none : (loses : Bool) → does None (last_of at es) [] → IsActed test does false loses es es None
    acted_none loses done = record {
      at = at;
      cut = subst (IsCut test es) (none at) cut;
      more = [];
      done = subst (λ (n : ℕ). does None (last_of n es) []) (none at) done;
      come = refl;
      items = sym (take-append-drop at es) ∙ come_in [] es at;
    }

    -- an item came behind the cut
    pub acted_come : (one : T) → does None (last_of at es) (one ∷ [])
        → IsActed test does true false es (insert es at one) None
    acted_come one done = record {
      at = at;
      cut = subst (IsCut test es) (none at) cut;
      more = one ∷ [];
      done = subst (λ (n : ℕ). does None (last_of n es) (one ∷ [])) (none at) done;
      come = refl;
      items = come_in (one ∷ []) es at;
    }

  module _ (answer : R) (cut : IsCut test es (at + 1)) where
    -- the last item before the cut became another
    pub acted_set : (grows : Bool) (one : T) → does (Some answer) (slice_get es at) (one ∷ [])
        → IsActed test does grows false es (set es at one) (Some answer)
    acted_set grows one done = record {
      at = at;
      cut = cut;
      more = one ∷ [];
      done = subst (λ (o : Option T). does (Some answer) o (one ∷ [])) (sym (last_is es at)) done;
      come = refl;
      items = set_spliced es at one (omega (arith, cut.within));
    }

    -- it went
    pub acted_gone : does (Some answer) (slice_get es at) []
        → IsActed test does false true es (remove es at) (Some answer)
    acted_gone done = record {
      at = at;
      cut = cut;
      more = [];
      done = subst (λ (o : Option T). does (Some answer) o []) (sym (last_is es at)) done;
      come = refl;
      items = remove_spliced es at;
    }

module _ {T : Type 0} (es : List T) (at : ℕ) (e : T) (within : at + 1 ≤ length es) (is : e ≡ get_or es at e) where
  -- an item that was read
  pub read_is : slice_get es at ≡ Some e
  read_is = slice_get_read es (length es) at e refl (omega (arith, within)) is

  -- and is not the sought one
  pub missed : (sought : T → Bool) → sought e ≡ false → IsMissed sought (last_of (at + 1) es)
  missed sought not = λ item h. ap sought (sym (same_Some e item (sym read_is ∙ sym (last_is es at) ∙ h))) ∙ not

  -- or is
  abbrev pub found_at : (sought test : T → Bool) → IsCut test es (at + 1) → sought e ≡ true → IsFound sought test es at
  found_at sought test cut found = record { item = e; cut = cut; is = read_is; found = found }

  -- another reading of it
  pub read_again : (d : T) → d ≡ get_or es at d → d ≡ e
  read_again d was = was ∙ get_or_default es at d e (omega (arith, within)) ∙ sym is

-- the last item before a place is not the sought one, if the item of that number is not
pub missed_at : {T : Type 0} (sought : T → Bool) (es : List T) (at : ℕ) (one : T) → slice_get es at ≡ Some one
    → sought one ≡ false → IsMissed sought (last_of (at + 1) es)
missed_at sought es at one is not =
    λ item h. ap sought (sym (same_Some one item (sym is ∙ sym (last_is es at) ∙ h))) ∙ not

module _ {T : Type 0} (sought test : T → Bool) (old new : List T) where
  -- none went, and these came
  come : (more xs : List T) (at : ℕ) → new ≡ spliced at 0 more old → more ≡ xs
      → new ≡ take at old ++ (xs ++ drop at old)
  come more xs at is by = is ∙ ap (λ (ys : List T). spliced at 0 ys old) by ∙ sym (come_in xs old at)

  -- what an act says of the whole list that found none to change
  says_none : {R : Type 0} {does : Option R → Option T → List T → Type 0} {grows loses : Bool}
      (did : IsActed test does grows loses old new None)
      → IsMissed sought (last_of (did.at + 0) old) × (did.more ≡ []) → (new ≡ old) × IsAbsent sought test old
  says_none did done = (
    come did.more [] did.at did.items done.1 ∙ take-append-drop did.at old,
    record {
      at = did.at;
      cut = subst (IsCut test old) (sym (none did.at)) did.cut;
      missed = subst (λ (n : ℕ). IsMissed sought (last_of n old)) (sym (none did.at)) done.0;
    },
  )

  -- what a taking says
  pub says_taken : (grows loses : Bool) (answer : Option T)
      → IsActed test (takes sought) grows loses old new answer → IfSome answer (IsTaken sought test old new)
  says_taken grows loses None did = tt
  says_taken grows loses (Some item) did = record {
    at = did.at;
    cut = did.cut;
    item = sym (last_is old did.at) ∙ did.done.0;
    found = did.done.1.0;
    items = did.items ∙ ap (λ (xs : List T). spliced did.at 1 xs old) did.done.1.1 ∙ sym (remove_spliced old did.at);
  }

  pub says_absent : (grows loses : Bool) (answer : Option T)
      → IsActed test (takes sought) grows loses old new answer
      → IfNone answer ((new ≡ old) × IsAbsent sought test old)
  says_absent grows loses (Some item) did = tt
  says_absent grows loses None did = says_none did did.done

  -- what a change says
  module _ {F R : Type 0} (g : Once F (MutBor T × Unit {0}) (R × (MutBor T × Unit {0}))) (change : F)
      (grows loses : Bool) where
    pub says_changed : (answer : Option R) → IsActed test (changes sought g change) grows loses old new answer
        → IfSome answer (IsChanged sought test g change old new)
    says_changed None did = tt
    says_changed (Some r) did =
        let done = did.done.1.1 in
        let after = did.done.1.0 in
        let is = sym (last_is old did.at) ∙ done.0 in
        record {
          at = did.at;
          there = record { item = did.done.0; cut = did.cut; is = is; found = done.1.0 };
          did = record {
            before = did.done.0;
            after = after;
            found = is;
            called = done.1.1.0;
            items = did.items ∙ ap (λ (xs : List T). spliced did.at 1 xs old) done.1.1.1
                ∙ sym (set_spliced old did.at after (omega (arith, did.cut.within)));
          };
        }

    pub says_unchanged : (answer : Option R) → IsActed test (changes sought g change) grows loses old new answer
        → IfNone answer ((new ≡ old) × IsAbsent sought test old)
    says_unchanged (Some r) did = tt
    says_unchanged None did = says_none did did.done

  module _ {R : Type 0} (made : T) (replaced : T → T) (put_out : T → R) (grows loses : Bool) where
    -- and what a putting in says
    pub says_replaced : (answer : Option R)
        → IsActed test (puts sought made replaced put_out) grows loses old new answer
        → IfSome answer (IsReplaced sought test replaced put_out old new)
    says_replaced None did = tt
    says_replaced (Some value) did =
        let done = did.done in
        record {
          at = did.at;
          before = done.0;
          cut = did.cut;
          item = sym (last_is old did.at) ∙ done.1.0;
          found = done.1.1.0;
          value = done.1.1.1.0;
          items = did.items ∙ ap (λ (xs : List T). spliced did.at 1 xs old) done.1.1.1.1
              ∙ sym (set_spliced old did.at (replaced done.0) (omega (arith, did.cut.within)));
        }

    pub says_added : (answer : Option R)
        → IsActed test (puts sought made replaced put_out) grows loses old new answer
        → IfNone answer (IsAdded sought test old new made)
    says_added (Some value) did = tt
    says_added None did = record {
      at = did.at;
      cut = subst (IsCut test old) (sym (none did.at)) did.cut;
      missed = subst (λ (n : ℕ). IsMissed sought (last_of n old)) (sym (none did.at)) did.done.0;
      items = come did.more (made ∷ []) did.at did.items did.done.1;
    }

-- what was missing at an equal cut of an equal list is absent
pub still_absent : {P T : Type 0} (sought test : P → T → Bool) {p q : P} {old es : List T} (at : ℕ) → p ≡ q → es ≡ old
    → IsMissing (sought p) (test p) es at → IsAbsent (sought q) (test q) old
still_absent sought test {p} {q} {old} {es} at same left none = subst (λ x. IsAbsent (sought x) (test x) old) same
    (subst (IsAbsent (sought p) (test p)) left (record { at = at; cut = none.cut; missed = none.missed }))
