-- Entries whose keys rise.
use Rattle.std.proofs.Common.{◌≡◌, true, false, List, [], ◌∷◌, ◌++◌, refl, ap, sym}
use Rattle.std.proofs.Common.{◌∙◌, true≢false}
use Rattle.std.proofs.lemmas.Bool.{and_from, and_parts}
use Rattle.std.specs.declared.cmp.Ordering.{Ordering}
use Rattle.std.specs.declared.cmp.Ordering.TheVariants.{Less, Equal, Greater}
use Rattle.std.specs.Ordering.{is_lt, is_eq, ordering_reverse}
use Rattle.std.specs.Cmp.{IsTotalOrder}
use Rattle.maps.specs.Maps.{all_above, is_rising, IsRising}
use Rattle.maps.specs.Places.{AreAbove, AreBelow}
use Rattle.maps.specs.Queries.{IsForm}

-- orders by their tests
pub lt_from : (o : Ordering) → is_lt o ≡ true → o ≡ Less
lt_from Less t = refl
lt_from Equal t = absurd (true≢false (sym t))
lt_from Greater t = absurd (true≢false (sym t))

-- an order that is equal
pub eq_from : (o : Ordering) → is_eq o ≡ true → o ≡ Equal
eq_from Less t = absurd (true≢false (sym t))
eq_from Equal t = refl
eq_from Greater t = absurd (true≢false (sym t))

-- an order that is neither
pub gt_from : (o : Ordering) → is_lt o ≡ false → is_eq o ≡ false → o ≡ Greater
gt_from Less t e = absurd (true≢false t)
gt_from Equal t e = absurd (true≢false e)
gt_from Greater t e = refl

-- only an equal order is its own reverse
turns_into_itself : (o : Ordering) → o ≡ ordering_reverse o → o ≡ Equal
turns_into_itself Less h = cc
turns_into_itself Equal h = refl
turns_into_itself Greater h = cc

module _ {K : Type 0} {cmp : K → K → Ordering} (total : IsTotalOrder cmp) where
  -- a key above another has that below it
  pub turned : (j k : K) → cmp j k ≡ Greater → cmp k j ≡ Less
  turned j k h = total.antisymm k j ∙ ap ordering_reverse h

  -- and the other way round
  pub turned_back : (j k : K) → cmp j k ≡ Less → cmp k j ≡ Greater
  turned_back j k h = total.antisymm k j ∙ ap ordering_reverse h

  -- a key is equal to itself
  pub equal_itself : (k : K) → cmp k k ≡ Equal
  equal_itself k = turns_into_itself (cmp k k) (total.antisymm k k)

-- what is above a key is above a lower one
over_lower : {K : Type 0} (cmp : K → K → Ordering) (order : K → Ordering) → IsForm cmp order → (j k : K)
    → cmp j k ≡ Less → order k ≡ Greater → order j ≡ Greater
over_lower cmp order form j k less h =
    elim (order j) as (λ o. order j ≡ o → o ≡ Greater) [
      | Less ↦ λ is. sym (form.below j k is less) ∙ h
      | Equal ↦ λ is. let same = form.equal j k is in cc
      | Greater ↦ λ is. refl
    ] refl

-- no entries rise
pub rising_nil : {K : Type 0} (V : Type 0) (cmp : K → K → Ordering) → IsRising {V = V} cmp []
unfolding is_rising
rising_nil V cmp = refl

module _ {K V : Type 0} (order : K → Ordering) where
  -- what is below all is below the front
  above_front : (l m : List (K × V)) → AreAbove order (l ++ m) → AreAbove order l
  above_front [] m a = tt
  above_front (x ∷ l) m a = (a.0, above_front l m a.1)

  -- and below the back
  pub above_back : (l m : List (K × V)) → AreAbove order (l ++ m) → AreAbove order m
  above_back [] m a = a
  above_back (x ∷ l) m a = above_back l m a.1

module _ {K V : Type 0} (cmp : K → K → Ordering) where
  abbrev pub Rises : List (K × V) → Type 0
  Rises [] = Unit {0}
  Rises (e ∷ es) = AreAbove (cmp e.0) es × Rises es

  -- the test as a fact
  to_above : (k : K) (es : List (K × V)) → all_above cmp k es ≡ true → AreAbove (cmp k) es
  to_above k [] t = tt
  to_above k (e ∷ es) t =
      let parts = and_parts (is_lt (cmp k e.0)) (all_above cmp k es) t in
      (lt_from (cmp k e.0) parts.0, to_above k es parts.1)

  -- the fact as a test
  from_above : (k : K) (es : List (K × V)) → AreAbove (cmp k) es → all_above cmp k es ≡ true
  from_above k [] a = refl
  from_above k (e ∷ es) a = and_from (is_lt (cmp k e.0)) (all_above cmp k es) (ap is_lt a.0) (from_above k es a.1)

  -- the test of all keys as a fact
  pub to : (es : List (K × V)) → IsRising cmp es → Rises es
  unfolding is_rising
  to [] t = tt
  to (e ∷ es) t =
      let parts = and_parts (all_above cmp e.0 es) (is_rising cmp es) t in (to_above e.0 es parts.0, to es parts.1)

  -- the fact as the test
  pub from : (es : List (K × V)) → Rises es → IsRising cmp es
  unfolding is_rising
  from [] s = refl
  from (e ∷ es) s = and_from (all_above cmp e.0 es) (is_rising cmp es) (from_above e.0 es s.0) (from es s.1)

  -- the front of what rises does
  rises_front : (l m : List (K × V)) → Rises (l ++ m) → Rises l
  rises_front [] m s = tt
  rises_front (x ∷ l) m s = (above_front (cmp x.0) l m s.0, rises_front l m s.1)

  -- and the back
  rises_back : (l m : List (K × V)) → Rises (l ++ m) → Rises m
  rises_back [] m s = s
  rises_back (x ∷ l) m s = rises_back l m s.1

  -- the same of the test
  pub rising_front : (l m : List (K × V)) → IsRising cmp (l ++ m) → IsRising cmp l
  rising_front l m s = from l (rises_front l m (to (l ++ m) s))

  -- the same of the test
  pub rising_back : (l m : List (K × V)) → IsRising cmp (l ++ m) → IsRising cmp m
  rising_back l m s = from m (rises_back l m (to (l ++ m) s))

  module _ (order : K → Ordering) (form : IsForm cmp order) where
    -- what is below a lower bound is below all
    pub above_more : (k : K) (es : List (K × V)) → order k ≡ Less → AreAbove (cmp k) es → AreAbove order es
    above_more k [] h a = tt
    above_more k (e ∷ es) h a = (form.below k e.0 h a.0, above_more k es h a.1)

    -- what is equal to a key is below the same
    pub above_alike : (k : K) (es : List (K × V)) → order k ≡ Equal → AreAbove (cmp k) es → AreAbove order es
    above_alike k [] h a = tt
    above_alike k (e ∷ es) h a = (form.equal k e.0 h ∙ a.0, above_alike k es h a.1)

    -- and the other way round
    pub above_equal : (k : K) (es : List (K × V)) → order k ≡ Equal → AreAbove order es → AreAbove (cmp k) es
    above_equal k [] h a = tt
    above_equal k (e ∷ es) h a = (sym (form.equal k e.0 h) ∙ a.0, above_equal k es h a.1)

    module _ (total : IsTotalOrder cmp) where
      -- the same, of entries whose keys rise
      over : (l : List (K × V)) (e : K × V) (r : List (K × V)) (o : Ordering) → order e.0 ≡ o → is_lt o ≡ false
          → Rises (l ++ e ∷ r) → AreBelow order l
      over [] e r o h t s = tt
      over (x ∷ l) e r Less h t s = absurd (true≢false t)
      over (x ∷ l) e r Equal h t s =
          let left : cmp x.0 e.0 ≡ Less = (above_back (cmp x.0) l (e ∷ r) s.0).0 in
          (form.equal e.0 x.0 h ∙ turned_back total x.0 e.0 left, over l e r Equal h t s.1)
      over (x ∷ l) e r Greater h t s =
          let left : cmp x.0 e.0 ≡ Less = (above_back (cmp x.0) l (e ∷ r) s.0).0 in
          (over_lower cmp order form x.0 e.0 left h, over l e r Greater h t s.1)

      -- what is at or above an entry is above all before it
      pub below_before : (l : List (K × V)) (e : K × V) (r : List (K × V)) (o : Ordering) → order e.0 ≡ o
          → is_lt o ≡ false → IsRising cmp (l ++ e ∷ r) → AreBelow order l
      below_before l e r o h t s = over l e r o h t (to (l ++ e ∷ r) s)
