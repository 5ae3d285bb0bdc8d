-- A function with another value at one place.
use Rattle.counting_core.proofs.Names.{◌≡◌, ℕ, Bool, true, false, nat_eq, refl, sym, ap, subst, eqb-true, if◌then◌else◌}
use Rattle.counting_core.proofs.Names.{fun_ext, put}
use Rattle.counting_core.proofs.Traces.HandleLists.{nat_eq-same}

module _ {A : Type 0} (f : ℕ → A) (i : ℕ) (y : A) where
  -- what holds of the value put, and of the others where they are, holds of all
  pub put-all : (P : ℕ → A → Type 0) → P i y → ((k : ℕ) → nat_eq i k ≡ false → P k (f k))
      → (k : ℕ) → P k (put f i y k)
  put-all P here others k = at (nat_eq i k) refl where
    at : (b : Bool) → nat_eq i k ≡ b → P k (if b then y else f k)
    at true e = subst (λ n. P n y) (eqb-true i k e) here
    at false e = others k e

  pub put-here : put f i y i ≡ y
  put-here = ap (λ b. if b then y else f i) (nat_eq-same i)

  pub put-other : (k : ℕ) → nat_eq i k ≡ false → put f i y k ≡ f k
  put-other k other = ap (λ b. if b then y else f k) other

  -- a value that is put where it was already
  pub put-same : f i ≡ y → put f i y ≡ f
  put-same same = fun_ext (put-all (λ k z. z ≡ f k) (sym same) (λ k _. refl))
