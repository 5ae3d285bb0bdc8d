-- What a builder of items that may be errors heard, reported of the whole call and as a run of its iterator.
use Rattle.std.proofs.Common.{◌≡◌, ℕ, Option, List, Result, Ok, Err, IfOk, IfErr, map, subst, refl, true}
use Rattle.core.proofs.iter.runs.Made.{run, to_end}
use Rattle.handles.specs.HeaderSlice.{HeaderAndItems}
use Rattle.handles.specs.HeaderSlice.TryBuilders.{BuildsGood, IsBuiltGoodUpTo, FailsUpTo}
use Rattle.handles.specs.declared.header_slice.build.BuildError.{BuildError}

module _ {S T E H : Type 0} (steps : S → Option (Result T E) → S → Type 0) (source : S) (after : S)
    (from : BuildError → E → Type 0) (header : H) where
  heard : (n : ℕ) (r : Result (HeaderAndItems H T) E) → IfOk r (IsBuiltGoodUpTo steps source n after header)
      → IfErr r (FailsUpTo steps source n from after) → BuildsGood steps source n from header r
  heard n (Ok slice) built _ =
      let items : List (Result T E) = map Ok slice.items in record {
        built = (after, built);
        failed = tt;
        runs = (run steps source items true (to_end steps source items (after, built.1)), refl, refl, refl);
      }
  heard n (Err e) _ fails = record { built = tt; failed = (after, fails); runs = tt }

  -- What a builder hears up to here is what it answers. Its iterator said that it gives m items, and n are left.
  pub builds_good : (m n : ℕ) → m ≡ n → (r : Result (HeaderAndItems H T) E)
      → IfOk r (IsBuiltGoodUpTo steps source m after header) → IfErr r (FailsUpTo steps source m from after)
      → BuildsGood steps source n from header r
  builds_good m n said r built fails =
      subst (λ k. BuildsGood steps source k from header r) said (heard m r built fails)
