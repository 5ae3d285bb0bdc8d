-- What is asked or changed concerns the entries between those below it and those above it.
use Rattle.std.proofs.Common.{◌≡◌, ◌+◌, suc, List, [], ◌∷◌, ◌++◌, length, cond, refl, ap, ◌∙◌, arith}
use Rattle.std.specs.Prelude.{None, Some}
use Rattle.std.specs.declared.cmp.Ordering.{Ordering}
use Rattle.std.specs.declared.cmp.Ordering.TheVariants.{Less, Equal, Greater}
use Rattle.std.specs.Ordering.{is_eq, match_ordering}
use Rattle.maps.specs.Maps.{found, rank_by, with_entry, without_by}
use Rattle.maps.specs.Places.{AreAbove, AreBelow, IsBetween}

module _ {K V : Type 0} (order : K → Ordering) where
  module _ {X : Type 0} (of : K × V → X) where
    -- nothing is found among entries below what is asked
    found_below : (l m : List (K × V)) → AreBelow order l → found order of (l ++ m) ≡ found order of m
    found_below [] m o = refl
    found_below (x ∷ l) m o = rw o.0 (found_below l m o.1)

    -- nor among those above it
    pub found_none : (r : List (K × V)) → AreAbove order r → found order of r ≡ None
    found_none [] a = refl
    found_none (x ∷ r) a = rw a.0 (found_none r a.1)

    -- nor do those add to what stands before them
    found_above : (m r : List (K × V)) → AreAbove order r → found order of (m ++ r) ≡ found order of m
    found_above [] r a = found_none r a
    found_above (x ∷ m) r a = ap (λ rest. cond (is_eq (order x.0)) (Some (of x)) rest) (found_above m r a)

    -- what is found is found in the middle
    pub found_between : (l m r : List (K × V)) → IsBetween order l r
        → found order of (l ++ (m ++ r)) ≡ found order of m
    found_between l m r is = found_below l (m ++ r) is.below ∙ found_above m r is.above

    -- an equal key between the two is found
    pub found_same : (l : List (K × V)) (e : K × V) (r : List (K × V)) → IsBetween order l r
        → order e.0 ≡ Equal → found order of (l ++ e ∷ r) ≡ Some (of e)
    found_same l e r is h = found_between l (e ∷ []) r is ∙ rw h refl

    -- nothing is found between the two
    pub found_new : (l r : List (K × V)) → IsBetween order l r → found order of (l ++ r) ≡ None
    found_new l r is = found_between l [] r is

  -- what goes stands behind the entries below what is asked
  without_below : (l m : List (K × V)) → AreBelow order l → without_by order (l ++ m) ≡ l ++ without_by order m
  unfolding without_by
  without_below [] m o = refl
  without_below (x ∷ l) m o = rw o.0 (ap (λ es. x ∷ es) (without_below l m o.1))

  -- and before those above it
  without_above : (m r : List (K × V)) → AreAbove order r → without_by order (m ++ r) ≡ without_by order m ++ r
  unfolding without_by
  without_above [] [] a = refl
  without_above [] (x ∷ r) a = rw a.0 refl
  without_above (x ∷ m) r a =
      elim (order x.0) as (λ o. match_ordering o (x ∷ (m ++ r)) (m ++ r) (x ∷ without_by order (m ++ r))
      ≡ match_ordering o (x ∷ m) m (x ∷ without_by order m) ++ r) [
        | Less ↦ refl
        | Equal ↦ refl
        | Greater ↦ ap (λ es. x ∷ es) (without_above m r a)
      ]

  -- a removal is one from the middle
  pub without_between : (l m r : List (K × V)) → IsBetween order l r
      → without_by order (l ++ (m ++ r)) ≡ l ++ (without_by order m ++ r)
  without_between l m r is = without_below l (m ++ r) is.below ∙ ap (λ es. l ++ es) (without_above m r is.above)

  -- the entry of an equal key goes
  pub without_same : (l : List (K × V)) (e : K × V) (r : List (K × V)) → IsBetween order l r
      → order e.0 ≡ Equal → without_by order (l ++ e ∷ r) ≡ l ++ r
  unfolding without_by
  without_same l e r is h = without_between l (e ∷ []) r is ∙ rw h refl

  -- nothing goes from between the two
  pub without_new : (l r : List (K × V)) → IsBetween order l r → without_by order (l ++ r) ≡ l ++ r
  unfolding without_by
  without_new l r is = without_between l [] r is

  -- entries below what is asked count
  rank_below : (l m : List (K × V)) → AreBelow order l → rank_by order (l ++ m) ≡ length l + rank_by order m
  unfolding rank_by
  rank_below [] m o = omega arith
  rank_below (x ∷ l) m o = rw o.0 (omega (arith, rank_below l m o.1))

  -- those above it do not
  rank_above : (m r : List (K × V)) → AreAbove order r → rank_by order (m ++ r) ≡ rank_by order m
  unfolding rank_by
  rank_above [] [] a = refl
  rank_above [] (x ∷ r) a = rw a.0 refl
  rank_above (x ∷ m) r a = ap (λ n. match_ordering (order x.0) 0 0 (suc n)) (rank_above m r a)

  -- the rank is that in the middle, behind those below
  pub rank_between : (l m r : List (K × V)) → IsBetween order l r
      → rank_by order (l ++ (m ++ r)) ≡ length l + rank_by order m
  rank_between l m r is =
      rank_below l (m ++ r) is.below ∙ ap (λ n. length l + n) (rank_above m r is.above)

  -- what is between the two has those below it before it
  pub rank_new : (l r : List (K × V)) → IsBetween order l r → rank_by order (l ++ r) ≡ length l
  unfolding rank_by
  rank_new l r is = omega (arith, rank_between l [] r is)

  -- and so has an equal key
  pub rank_same : (l : List (K × V)) (e : K × V) (r : List (K × V)) → IsBetween order l r → order e.0 ≡ Equal
      → rank_by order (l ++ e ∷ r) ≡ length l
  unfolding rank_by
  rank_same l e r is h =
      let none : rank_by order (e ∷ []) ≡ 0 = rw h refl in omega (arith, rank_between l (e ∷ []) r is, none)

module _ {K V : Type 0} (cmp : K → K → Ordering) (q : K) where
  -- a new entry goes behind those below the key
  with_below : (v : V) (l m : List (K × V)) → AreBelow (cmp q) l
      → with_entry cmp q v (l ++ m) ≡ l ++ with_entry cmp q v m
  unfolding with_entry
  with_below v [] m o = refl
  with_below v (x ∷ l) m o = rw o.0 (ap (λ es. x ∷ es) (with_below v l m o.1))

  -- and before those above it
  with_above : (v : V) (m r : List (K × V)) → AreAbove (cmp q) r
      → with_entry cmp q v (m ++ r) ≡ with_entry cmp q v m ++ r
  unfolding with_entry
  with_above v [] [] a = refl
  with_above v [] (x ∷ r) a = rw a.0 refl
  with_above v (x ∷ m) r a =
      elim (cmp q x.0) as (λ o. match_ordering o ((q, v) ∷ x ∷ (m ++ r)) ((x.0, v) ∷ (m ++ r))
      (x ∷ with_entry cmp q v (m ++ r))
      ≡ match_ordering o ((q, v) ∷ x ∷ m) ((x.0, v) ∷ m) (x ∷ with_entry cmp q v m) ++ r) [
        | Less ↦ refl
        | Equal ↦ refl
        | Greater ↦ ap (λ es. x ∷ es) (with_above v m r a)
      ]

  -- a change under the key is one of the middle
  pub with_between : (v : V) (l m r : List (K × V)) → IsBetween (cmp q) l r
      → with_entry cmp q v (l ++ (m ++ r)) ≡ l ++ (with_entry cmp q v m ++ r)
  with_between v l m r is = with_below v l (m ++ r) is.below ∙ ap (λ es. l ++ es) (with_above v m r is.above)

  -- a new entry goes between the two
  pub with_new : (v : V) (l r : List (K × V)) → IsBetween (cmp q) l r
      → with_entry cmp q v (l ++ r) ≡ l ++ (q, v) ∷ r
  unfolding with_entry
  with_new v l r is = with_between v l [] r is

  -- the value of an equal key is written
  pub with_same : (v : V) (l : List (K × V)) (e : K × V) (r : List (K × V)) → IsBetween (cmp q) l r
      → cmp q e.0 ≡ Equal → with_entry cmp q v (l ++ e ∷ r) ≡ l ++ (e.0, v) ∷ r
  unfolding with_entry
  with_same v l e r is h = with_between v l (e ∷ []) r is ∙ rw h refl
