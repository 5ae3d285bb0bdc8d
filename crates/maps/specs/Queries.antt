-- Queries: what stands for a key when a map is searched.
use Rattle.std.specs.Prelude.{◌≡◌}
use Rattle.std.specs.Cmp.{IsTotalOrder}
use Rattle.std.specs.declared.cmp.Ordering.{Ordering}
use Rattle.std.specs.declared.cmp.Ordering.TheVariants.{Less, Equal}

-- compares with the keys as a key could: like any key that it equals, and if less than a key, also less than all that
-- are greater
pub record IsForm {K : Type 0} (cmp : K → K → Ordering) (order : K → Ordering) : Type 0 where
  pub equal : (x y : K) → order x ≡ Equal → order y ≡ cmp x y
  pub below : (x y : K) → order x ≡ Less → cmp x y ≡ Less → order y ≡ Less

-- a part by which keys are compared is such a form
pub part_form : {K P : Type 0} (part : K → P) (cmp : P → P → Ordering) → IsTotalOrder cmp → (p : P)
    → IsForm (λ x y. cmp (part x) (part y)) (λ k. cmp p (part k))
part_form part cmp total p = record {
  equal = λ x y h. total.congr p (part x) (part y) h;
  below = λ x y h less. total.trans p (part x) (part y) h less;
}

-- a key itself is such a form
pub key_form : {K : Type 0} {cmp : K → K → Ordering} → IsTotalOrder cmp → (k : K) → IsForm cmp (cmp k)
key_form {K} {cmp} total k = part_form (λ x. x) cmp total k
