-- What stands under each key after a change of one.
use Rattle.std.proofs.Common.{◌≡◌, true, false, Bool, cond, List, [], ◌∷◌, refl, ap, sym, ◌∙◌}
use Rattle.std.specs.Prelude.{Option, None, Some}
use Rattle.std.specs.declared.cmp.Ordering.{Ordering}
use Rattle.std.specs.declared.cmp.Ordering.TheVariants.{Less, Equal, Greater}
use Rattle.std.specs.Cmp.{IsTotalOrder}
use Rattle.std.specs.Ordering.{is_eq, match_ordering, ordering_reverse}
use Rattle.std.proofs.lemmas.Cmp.{alike_right}
use Rattle.maps.specs.Maps.{IsRising, lookup, with_entry, without_by}
use Rattle.maps.specs.Queries.{IsForm, key_form}
use Rattle.maps.proofs.Between.{found_none}
use Rattle.maps.proofs.Order.{to, from, eq_from, above_alike, above_equal, above_more}

-- a key found twice is found once
either : {X : Type 0} (b : Bool) (m n o : X) → cond b m o ≡ cond b m (cond b n o)
either true m n o = refl
either false m n o = refl

-- the order of two tests of unlike keys does not matter
apart : {X : Type 0} (a b : Ordering) (m n o : X) → (a ≡ Equal → b ≡ Greater)
    → cond (is_eq b) n (cond (is_eq a) m o) ≡ cond (is_eq a) m (cond (is_eq b) n o)
apart Less b m n o h = refl
apart Equal b m n o h = rw (h refl) refl
apart Greater b m n o h = refl

-- what each key has after a change of one
pub lookup_with : {K V : Type 0} (cmp : K → K → Ordering) → IsTotalOrder cmp → (j q : K) (v : V) (es : List (K × V))
    → lookup cmp j (with_entry cmp q v es) ≡ cond (is_eq (cmp j q)) (Some v) (lookup cmp j es)
unfolding with_entry
lookup_with cmp total j q v [] = refl
lookup_with cmp total j q v (x ∷ es) =
    elim (cmp q x.0) as (λ o. cmp q x.0 ≡ o
    → lookup cmp j (match_ordering o ((q, v) ∷ x ∷ es) ((x.0, v) ∷ es) (x ∷ with_entry cmp q v es))
    ≡ cond (is_eq (cmp j q)) (Some v) (lookup cmp j (x ∷ es))) [
      | Less ↦ λ is. refl
      | Equal ↦ λ is. rw (alike_right total q x.0 j is)
          (either (is_eq (cmp j x.0)) (Some v) (Some x.1) (lookup cmp j es))
      | Greater ↦ λ is. ap (λ found. cond (is_eq (cmp j x.0)) (Some x.1) found) (lookup_with cmp total j q v es)
          ∙ apart (cmp j q) (cmp j x.0) (Some v) (Some x.1) (lookup cmp j es) (λ e. total.congr j q x.0 e
          ∙ is)
    ] refl

-- a key without a value has none
absent : {X : Type 0} (b : Bool) (m : Option X) → (b ≡ true → m ≡ None) → m ≡ cond b None m
absent true m h = h refl
absent false m h = refl

-- nor has a key that is gone
gone : {X : Type 0} (b : Bool) (m n : Option X) → (b ≡ true → m ≡ None) → m ≡ cond b None (cond b n m)
gone true m n h = h refl
gone false m n h = refl

-- an order and its reverse are equal together
eq-reverse : (o : Ordering) → is_eq (ordering_reverse o) ≡ is_eq o
eq-reverse Less = refl
eq-reverse Equal = refl
eq-reverse Greater = refl

pub alike_turned : {K : Type 0} (cmp : K → K → Ordering) → IsTotalOrder cmp → (j k : K)
    → is_eq (cmp j k) ≡ is_eq (cmp k j)
alike_turned cmp total j k = ap is_eq (total.antisymm j k) ∙ eq-reverse (cmp k j)

-- what each key has after the removal of the one that is equal to what is asked
pub lookup_without : {K V : Type 0} (cmp : K → K → Ordering) → IsTotalOrder cmp → (order : K → Ordering)
    → IsForm cmp order → (j : K) (es : List (K × V)) → IsRising cmp es
    → lookup cmp j (without_by order es) ≡ cond (is_eq (order j)) None (lookup cmp j es)
unfolding without_by
lookup_without cmp total order form j [] s = absent (is_eq (order j)) None (λ is. refl)
lookup_without cmp total order form j (x ∷ es) s =
    let rises = to cmp (x ∷ es) s in
    elim (order x.0) as (λ o. order x.0 ≡ o
    → lookup cmp j (match_ordering o (x ∷ es) es (x ∷ without_by order es))
    ≡ cond (is_eq (order j)) None (lookup cmp j (x ∷ es))) [
      | Less ↦ λ is. absent (is_eq (order j)) (lookup cmp j (x ∷ es)) (λ same.
          let e = eq_from (order j) same in
          let above = above_more cmp order form x.0 es is rises.0 in
          found_none (cmp j) (λ e. e.1) (x ∷ es) (above_equal cmp order form j (x ∷ es) e (is, above)))
      | Equal ↦ λ is. rw (form.equal x.0 j is ∙ total.antisymm x.0 j) (rw eq-reverse
          (gone (is_eq (cmp j x.0)) (lookup cmp j es) (Some x.1) (λ same.
          found_none (cmp j) (λ e. e.1) es (above_alike cmp (cmp j) (key_form total j) x.0 es
          (eq_from (cmp j x.0) same) rises.0))))
      | Greater ↦ λ is.
          ap (λ rest. cond (is_eq (cmp j x.0)) (Some x.1) rest)
          (lookup_without cmp total order form j es (from cmp es rises.1))
          ∙ apart (order j) (cmp j x.0) None (Some x.1) (lookup cmp j es)
          (λ e. sym (form.equal j x.0 e) ∙ is)
    ] refl
