-- What a call tells, once it is known whether it is refused.
use Rattle.std.proofs.Common.{◌≡◌, ◌+◌, ◌-◌, ◌<◌, ◌∙◌, ap, arith, false, subst, sym, true≢false, ℕ}
use Rattle.std.specs.Int.{from_bool}
use Rattle.std.specs.Prelude.{Bool, Err, IsErrAnd, MatchResult, Ok, OnErr, OnOk, Result, is_err, is_ok}

-- what a refused call tells of what it was lent
pub kept_at : {A E P : Type 0} (r : Result A E) (e : E) → r ≡ Err e → OnErr r P → P
kept_at {P = P} r e is kept = subst (λ r. OnErr r P) is kept

-- what a call tells that is not refused
pub told_at : {A E P : Type 0} (r : Result A E) → is_err r ≡ false → OnOk r P → P
told_at (Ok a) is told = told
told_at (Err e) is told = absurd (true≢false is)

-- what a refused call tells, where `?` passes its error on
pub passed_on : {A E : Type 0} (P : A → Type 0) (Q : E → Type 0) (r : Result A E) (e : E)
    → IsErrAnd r (λ back. back ≡ e) → Q e → MatchResult r P Q
passed_on P Q (Ok a) e refused told = absurd refused
passed_on P Q (Err b) e refused told = subst Q (sym refused) told

module _ {A E : Type 0} (len n : ℕ) (b : Bool) (says : n ≡ from_bool b) where
  -- a length that counts a call which is not refused
  pub one_more : (r : Result A E) → b ≡ is_ok r → OnOk r (len + n + 0 ≡ len + 1) × OnErr r (len + n ≡ len)
  one_more (Ok a) is = (omega (arith, says ∙ ap from_bool is), tt)
  one_more (Err e) is = (tt, omega (arith, says ∙ ap from_bool is))

  pub one_less : (r : Result A E) → b ≡ is_ok r → 0 < len → OnOk r (len - n + 1 ≡ len + 0) × OnErr r (len - n ≡ len)
  one_less (Ok a) is some = (omega (arith, says ∙ ap from_bool is, some), tt)
  one_less (Err e) is some = (tt, omega (arith, says ∙ ap from_bool is))
