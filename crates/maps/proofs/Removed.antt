-- What a caller's clause says of a map after a `remove`, a `pop_first` or a `pop_last`: the sum over all entries.
use Rattle.std.proofs.Common.{◌≡◌, ◌+◌, ◌-◌, ℕ, suc, List, [], ◌∷◌, drop, take, length, refl, arith}
use Rattle.std.specs.Prelude.{slice_get, sum_by}
use Rattle.std.specs.Option.{option_map, unwrap_or}
use Rattle.std.specs.declared.cmp.Ordering.{Ordering}
use Rattle.std.specs.declared.cmp.Ordering.TheVariants.{Less, Equal, Greater}
use Rattle.std.specs.Cmp.{IsTotalOrder}
use Rattle.std.specs.Ordering.{match_ordering, nat_cmp}
use Rattle.std.proofs.lemmas.Cmp.{nat_cmp_total}
use Rattle.std.proofs.lemmas.Iterator.Adapters.{option_map_id}
use Rattle.std.proofs.lemmas.List.Sums.{sum_by-cons}
use Rattle.maps.specs.Maps.{IsRising, lookup, without, without_by}
use Rattle.maps.specs.Queries.{key_form}
use Rattle.maps.proofs.Between.{found_none}
use Rattle.maps.proofs.Order.{to, from, above_more}

-- a sum over the values loses that of the entry that goes
module _ {K : Type 0} (cmp : K → K → Ordering) (total : IsTotalOrder cmp) where
  pub sum_by_without : {V : Type 0} (of : V → ℕ) (q : K) (es : List (K × V)) → IsRising cmp es
      → sum_by (λ e. of e.1) (without cmp q es) + unwrap_or (option_map of (lookup cmp q es)) 0
      ≡ sum_by (λ e. of e.1) es
  unfolding without_by
  sum_by_without {V} of q [] s = refl
  sum_by_without {V} of q (x ∷ es) s =
      let rises = to cmp (x ∷ es) s in
      let each = sum_by-cons (λ (e : K × V). of e.1) in
      elim (cmp q x.0) as (λ o. cmp q x.0 ≡ o
      → sum_by (λ e. of e.1) (match_ordering o (x ∷ es) es (x ∷ without cmp q es))
      + unwrap_or (option_map of (lookup cmp q (x ∷ es))) 0 ≡ sum_by (λ e. of e.1) (x ∷ es)) [
        | Less ↦ λ is.
            let above = above_more cmp (cmp q) (key_form total q) x.0 es is rises.0 in
            rw (found_none (cmp q) (λ e. e.1) (x ∷ es) (is, above)) (omega arith)
        | Equal ↦ λ is. rw is (omega (arith, each x es))
        | Greater ↦ λ is. rw is (omega (
          arith,
          each x es,
          each x (without cmp q es),
          sum_by_without of q es (from cmp es rises.1),
        ))
      ] refl

-- the same of the first entry and the last
module _ {E : Type 0} (of : E → ℕ) where
  pub sum_by_first : (es : List E) → sum_by of (drop 1 es) + unwrap_or (option_map of (slice_get es 0)) 0 ≡ sum_by of es
  sum_by_first [] = refl
  sum_by_first (e ∷ es) = omega (arith, sum_by-cons of e es)

  pub sum_by_last : (es : List E)
      → sum_by of (take (length es - 1) es) + unwrap_or (option_map of (slice_get es (length es - 1))) 0 ≡ sum_by of es
  sum_by_last [] = refl
  sum_by_last (e ∷ []) = omega (arith, sum_by-cons of e [])
  sum_by_last (e ∷ x ∷ es) =
      let step : length (e ∷ x ∷ es) - 1 ≡ suc (length (x ∷ es) - 1) = omega arith in
      rw step (omega (
        arith,
        sum_by-cons of e (x ∷ es),
        sum_by-cons of e (take (length (x ∷ es) - 1) (x ∷ es)),
        sum_by_last (x ∷ es),
      ))

-- the same where keys and values are numbers, as `using(..)` takes them
module _ (es : List (ℕ × ℕ)) where
  pub number_sum : (q : ℕ) → IsRising nat_cmp es
      → sum_by (λ e. e.1) (without nat_cmp q es) + unwrap_or (lookup nat_cmp q es) 0 ≡ sum_by (λ e. e.1) es
  number_sum q s = rw option_map_id at (sum_by_without nat_cmp nat_cmp_total (λ n. n) q es s)

  pub number_first : sum_by (λ e. e.1) (drop 1 es) + unwrap_or (option_map (λ e. e.1) (slice_get es 0)) 0
      ≡ sum_by (λ e. e.1) es
  number_first = sum_by_first (λ e. e.1) es

  pub number_last : sum_by (λ e. e.1) (take (length es - 1) es)
      + unwrap_or (option_map (λ e. e.1) (slice_get es (length es - 1))) 0
      ≡ sum_by (λ e. e.1) es
  number_last = sum_by_last (λ e. e.1) es

pub ruleset numbers = (number_sum, number_first, number_last)
