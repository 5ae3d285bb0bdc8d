-- What a caller's clause says of a map after an insert: what stands under a key, and the sum over all entries.
use Rattle.std.proofs.Common.{◌≡◌, ◌+◌, ℕ, false, cond, List, [], ◌∷◌, refl, ap, ◌∙◌, arith}
use Rattle.std.specs.Prelude.{Some, sum_by}
use Rattle.std.specs.Option.{option_map, unwrap_or}
use Rattle.std.specs.declared.cmp.Ordering.{Ordering}
use Rattle.std.specs.declared.cmp.Ordering.TheVariants.{Less, Equal, Greater}
use Rattle.std.specs.Cmp.{IsTotalOrder}
use Rattle.std.specs.Ordering.{is_eq, match_ordering, nat_cmp}
use Rattle.std.proofs.lemmas.Cmp.{nat_cmp_total, tied_itself}
use Rattle.std.proofs.lemmas.Iterator.Adapters.{option_map_id}
use Rattle.std.proofs.lemmas.List.Sums.{sum_by-cons}
use Rattle.maps.specs.Maps.{IsRising, lookup, with_entry}
use Rattle.maps.specs.Queries.{key_form}
use Rattle.maps.proofs.Between.{found_none}
use Rattle.maps.proofs.Lookup.{lookup_with}
use Rattle.maps.proofs.Order.{to, from, above_more}

module _ {K : Type 0} (cmp : K → K → Ordering) (total : IsTotalOrder cmp) where
  module _ {V : Type 0} (q : K) (v : V) (es : List (K × V)) where
    -- the value that was put in is read under its key
    pub lookup_same : lookup cmp q (with_entry cmp q v es) ≡ Some v
    lookup_same = rw (lookup_with cmp total q q v es, tied_itself total q)

    -- and under another key what was there
    pub lookup_other : (j : K) → is_eq (cmp j q) ≡ false → lookup cmp j (with_entry cmp q v es) ≡ lookup cmp j es
    lookup_other j other =
        lookup_with cmp total j q v es ∙ ap (λ equal. cond equal (Some v) (lookup cmp j es)) other

  -- a sum over the values gets that of the new one, and loses that of the value that the key had
  pub sum_by_with : {V : Type 0} (of : V → ℕ) (q : K) (v : V) (es : List (K × V)) → IsRising cmp es
      → sum_by (λ e. of e.1) (with_entry cmp q v es) + unwrap_or (option_map of (lookup cmp q es)) 0
      ≡ sum_by (λ e. of e.1) es + of v
  unfolding with_entry
  sum_by_with {V} of q v [] s = omega (arith, sum_by-cons (λ (e : K × V). of e.1) (q, v) [])
  sum_by_with {V} of q v (x ∷ es) s =
      let rises = to cmp (x ∷ es) s in
      let each = sum_by-cons (λ (e : K × V). of e.1) in
      elim (cmp q x.0) as (λ o. cmp q x.0 ≡ o
      → sum_by (λ e. of e.1) (match_ordering o ((q, v) ∷ x ∷ es) ((x.0, v) ∷ es) (x ∷ with_entry cmp q v es))
      + unwrap_or (option_map of (lookup cmp q (x ∷ es))) 0 ≡ sum_by (λ e. of e.1) (x ∷ es) + of v) [
        | Less ↦ λ is.
            let above = above_more cmp (cmp q) (key_form total q) x.0 es is rises.0 in
            rw (found_none (cmp q) (λ e. e.1) (x ∷ es) (is, above)) (omega (arith, each (q, v) (x ∷ es)))
        | Equal ↦ λ is. rw is (omega (arith, each x es, each (x.0, v) es))
        | Greater ↦ λ is. rw is (omega (
          arith,
          each x es,
          each x (with_entry cmp q v es),
          sum_by_with of q v es (from cmp es rises.1),
        ))
      ] refl

  -- the same of numbers
  pub sum_with : (q : K) (v : ℕ) (es : List (K × ℕ)) → IsRising cmp es
      → sum_by (λ e. e.1) (with_entry cmp q v es) + unwrap_or (lookup cmp q es) 0 ≡ sum_by (λ e. e.1) es + v
  sum_with q v es s = rw option_map_id at (sum_by_with (λ n. n) q v es s)

-- the same where the keys are numbers, as `using(..)` takes them
module _ {V : Type 0} (q : ℕ) (v : V) (es : List (ℕ × V)) where
  pub number_same : lookup nat_cmp q (with_entry nat_cmp q v es) ≡ Some v
  number_same = lookup_same nat_cmp nat_cmp_total q v es

  pub number_other : (j : ℕ) → is_eq (nat_cmp j q) ≡ false
      → lookup nat_cmp j (with_entry nat_cmp q v es) ≡ lookup nat_cmp j es
  number_other j other = lookup_other nat_cmp nat_cmp_total q v es j other

pub number_sum : (q v : ℕ) (es : List (ℕ × ℕ)) → IsRising nat_cmp es
    → sum_by (λ e. e.1) (with_entry nat_cmp q v es) + unwrap_or (lookup nat_cmp q es) 0 ≡ sum_by (λ e. e.1) es + v
number_sum q v es s = sum_with nat_cmp nat_cmp_total q v es s

pub ruleset numbers = (number_same, number_other, number_sum)
