-- Copies of the entries of a map.
use Rattle.std.proofs.Common.{◌≡◌, ap, ◌∙◌}
use denote.Ref.{Bor}
use Rattle.std.specs.Prelude.{Option, None, Some}
use Rattle.std.specs.Option.{IsSomeAnd, MatchOption, option_copied}
use Rattle.handles.specs.Copies.{CopiesAreEqual}

-- a copy of an entry is the entry
pub pairs_equal : {K V : Type 0} (R : K → K → Type 0) (S : V → V → Type 0) → CopiesAreEqual R → CopiesAreEqual S
    → (a b : K × V) → R a.0 b.0 → S a.1 b.1 → b ≡ a
pairs_equal R S k v a b r s = ap (λ x. (x, b.1)) (k a.0 b.0 r) ∙ ap (λ y. (a.0, y)) (v a.1 b.1 s)

-- a copy of a value that there may be
pub copied_equal : {V : Type 0} (S : V → V → Type 0) → CopiesAreEqual S → (seen : Option (Bor V)) (b : Option V)
    → MatchOption seen (b ≡ None) (λ a. IsSomeAnd b (S a.now)) → b ≡ option_copied seen
copied_equal S v None b is = is
copied_equal S v (Some a) None is = absurd is
copied_equal S v (Some a) (Some b) is = ap (λ c. Some c) (v a.now b is)
