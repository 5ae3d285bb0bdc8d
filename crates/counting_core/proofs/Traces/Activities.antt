-- What an owner is in the middle of, by the step that it may make.
use Rattle.counting_core.proofs.Names.{◌≡◌, ℕ, true, false, refl, sym, true≢false, Activity, Idle, Cloning}
use Rattle.counting_core.proofs.Names.{Dropping, Step, Raise, Quit, Lower, State, handle_in, seen_in, permitted_by}
use Rattle.counting_core.proofs.Names.{Bool, permitted, owner_of, and_parts, is_dropping}

module _ (V : Type 0) (u : State) where
  pub raising : (o : ℕ) (c : Activity) → permitted_by {V = V} u c (Raise o) ≡ true
      → c ≡ Cloning (handle_in c) (seen_in c)
  raising o (Cloning h n) may = refl
  raising o Idle may = absurd (true≢false (sym may))
  raising o (Dropping h) may = absurd (true≢false (sym may))

  pub lowering : (o : ℕ) (c : Activity) → permitted_by {V = V} u c (Lower o) ≡ true → c ≡ Dropping (handle_in c)
  lowering o (Dropping h) may = refl
  lowering o Idle may = absurd (true≢false (sym may))
  lowering o (Cloning h n) may = absurd (true≢false (sym may))

abbrev pub is_lower : {V : Type 0} → Step V → Bool
is_lower (Lower o) = true
is_lower s = false

-- only an owner with a drop in flight lowers, and it does nothing else
pub drops-none : {V : Type 0} (u : State) (s : Step V) (c : Activity) → permitted_by u c s ≡ true → is_lower s ≡ false
    → is_dropping c ≡ false
drops-none u s Idle may other = refl
drops-none u s (Cloning h n) may other = refl
drops-none u (Lower o) (Dropping h) may other = absurd (true≢false other)
drops-none u s (Dropping h) may other = absurd (true≢false (sym may))

-- a step by which an owner goes on with what it has in flight
abbrev pub resumes : {V : Type 0} → Step V → Bool
resumes (Raise o) = true
resumes (Quit o) = true
resumes (Lower o) = true
resumes s = false

-- any other is of an idle owner
module _ {V : Type 0} (u : State) where
  pub begins : (s : Step V) (c : Activity) → permitted_by u c s ≡ true → resumes s ≡ false
      → (c ≡ Idle) × (permitted_by u Idle s ≡ true)
  begins s Idle may other = (refl, may)
  begins (Raise o) (Cloning h n) may other = absurd (true≢false other)
  begins (Quit o) (Cloning h n) may other = absurd (true≢false other)
  begins s (Cloning h n) may other = absurd (true≢false (sym may))
  begins (Lower o) (Dropping h) may other = absurd (true≢false other)
  begins s (Dropping h) may other = absurd (true≢false (sym may))

  pub begun : (s : Step V) → permitted u s ≡ true → resumes s ≡ false
      → (u.activity (owner_of s) ≡ Idle) × (permitted_by u Idle s ≡ true)
  begun s may = begins s (u.activity (owner_of s)) (and_parts _ _ may).1
