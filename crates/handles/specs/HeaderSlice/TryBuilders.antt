-- The result of a builder of n items, by what the iterator yielded, whose items may be errors.
use Rattle.std.specs.Prelude.{◌≡◌, ℕ, ◌<◌, ◌⊎◌, List, map, length, Option, None, Some, Result, Ok, Err, IfOk, IfErr}
use Rattle.std.specs.Iterator.{YieldsThen}
use Rattle.std.specs.Iterator.Runs.{WholeRun}
use Rattle.handles.specs.HeaderSlice.{HeaderAndItems, ItemsInRoom}
use Rattle.handles.specs.declared.header_slice.build.BuildError.{BuildError}
use Rattle.handles.specs.declared.header_slice.build.BuildError.TheVariants.{Memory, OverReported, UnderReported}

module _ {S T E : Type 0} (steps : S → Option (Result T E) → S → Type 0) (source : S) (n : ℕ) where
  -- these items and no error, then that answer
  abbrev pub GivesGood : List T → Option (Result T E) → S → Type 0
  GivesGood items answer after = YieldsThen steps source (map Ok items) answer after

  abbrev pub TakesGoodUpTo : S → ItemsInRoom T → Type 0
  TakesGoodUpTo after taken = GivesGood taken.items None after × (length taken.items ≡ n)

  abbrev pub IsBuiltGoodUpTo : {H : Type 0} → S → H → HeaderAndItems H T → Type 0
  IsBuiltGoodUpTo after header slice =
      (slice.header ≡ header) × GivesGood slice.items None after × (length slice.items ≡ n)

  -- if memory is refused, the iterator was not asked at all
  abbrev pub RefusesGoodUpTo : S → BuildError → Type 0
  RefusesGoodUpTo after Memory = after ≡ source
  RefusesGoodUpTo after OverReported = (items : List T) × GivesGood items None after × (length items < n)
  RefusesGoodUpTo after UnderReported =
      (items : List T) × (extra : Result T E) × GivesGood items (Some extra) after × (length items ≡ n)

  -- the first error among the items, or what `from` makes of a refusal
  abbrev pub FailsUpTo : (BuildError → E → Type 0) → S → E → Type 0
  FailsUpTo from after e =
      ((items : List T) × GivesGood items (Some (Err e)) after × (length items < n))
      ⊎ ((refusal : BuildError) × from refusal e × RefusesGoodUpTo after refusal)

  abbrev pub IsBuiltGood : {H : Type 0} → H → HeaderAndItems H T → Type 0
  IsBuiltGood header slice = (after : S) × IsBuiltGoodUpTo after header slice

  -- A public builder keeps no iterator that its caller could ask about. So what `from` makes of `Memory` is allowed
  -- whatever the iterator gave.
  abbrev pub Fails : (BuildError → E → Type 0) → E → Type 0
  Fails from e = (after : S) × FailsUpTo from after e

-- a run of the iterator took just the items of the slice, and no error
abbrev pub TakesAllGood : {S T E H : Type 0} → (S → Option (Result T E) → S → Type 0)
    → S → HeaderAndItems H T → Type 0
TakesAllGood steps source slice = WholeRun steps source (λ p. p.items ≡ map Ok slice.items)

-- What a builder answers that wants n items and no error among them.
pub record BuildsGood {S T E H : Type 0} (steps : S → Option (Result T E) → S → Type 0) (source : S) (n : ℕ)
    (from : BuildError → E → Type 0) (header : H) (answer : Result (HeaderAndItems H T) E) : Type 0 where
  pub built : IfOk answer (IsBuiltGood steps source n header)
  pub failed : IfErr answer (Fails steps source n from)
  pub runs : IfOk answer (TakesAllGood steps source)
