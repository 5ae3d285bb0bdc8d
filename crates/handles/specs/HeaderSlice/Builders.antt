-- The result of a builder of n items, by what the iterator yielded.
use Rattle.std.specs.Prelude.{◌≡◌, ⊤, ℕ, ◌+◌, ◌<◌, Option, Result, IfOk, IfErr}
use Rattle.std.specs.Iterator.Runs.{SomeRun, WholeRun}
use Rattle.handles.specs.HeaderSlice.{HeaderAndItems}
use Rattle.handles.specs.HeaderSlice.Pulls.{GivesRight, GivesFewer, GivesMore}
use Rattle.handles.specs.declared.header_slice.build.BuildError.{BuildError}
use Rattle.handles.specs.declared.header_slice.build.BuildError.TheVariants.{Memory, OverReported, UnderReported}

module _ {S A : Type 0} (steps : S → Option A → S → Type 0) (source : S) (n : ℕ) where
  -- the header with just the items that came, and the iterator as it is then
  abbrev pub IsBuiltUpTo : {H : Type 0} → S → H → HeaderAndItems H A → Type 0
  IsBuiltUpTo after header slice = (slice.header ≡ header) × GivesRight steps source n after slice.items

  -- what the iterator has become when a refusal comes: by `Memory` it was not asked at all
  abbrev pub RefusesUpTo : S → BuildError → Type 0
  RefusesUpTo after Memory = after ≡ source
  RefusesUpTo after OverReported = GivesFewer steps source n after
  RefusesUpTo after UnderReported = GivesMore steps source n after

  abbrev pub IsBuilt : {H : Type 0} → H → HeaderAndItems H A → Type 0
  IsBuilt header slice = (after : S) × IsBuiltUpTo after header slice

  -- A public builder keeps no iterator that its caller could ask about. So of `Memory` this says nothing.
  abbrev pub Refuses : BuildError → Type 0
  Refuses refusal = (after : S) × RefusesUpTo after refusal

  -- the refusals reported of runs, as `TakesAll` tells what is built
  abbrev pub RefusesRun : BuildError → Type 0
  RefusesRun Memory = ⊤
  RefusesRun OverReported = WholeRun steps source (λ p. p.len < n)
  RefusesRun UnderReported = SomeRun steps source (λ p. p.len ≡ n + 1)

-- A run of the iterator took just the items of the slice, as the library says it of what takes all items of an
-- iterator. By it a slice that is built from a vector, or from a chain over a slice, is known to be that list.
abbrev pub TakesAll : {S A H : Type 0} → (S → Option A → S → Type 0) → S → HeaderAndItems H A → Type 0
TakesAll steps source slice = WholeRun steps source (λ p. p.items ≡ slice.items)

-- What a builder answers that wants n items: what is built or refused, and the same of the iterator's whole run.
pub record Builds {S A H : Type 0} (steps : S → Option A → S → Type 0) (source : S) (n : ℕ) (header : H)
    (answer : Result (HeaderAndItems H A) BuildError) : Type 0 where
  pub built : IfOk answer (IsBuilt steps source n header)
  pub refused : IfErr answer (Refuses steps source n)
  pub runs : IfOk answer (TakesAll steps source)
  pub refusals : IfErr answer (RefusesRun steps source n)
