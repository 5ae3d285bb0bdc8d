-- What a builder heard of items that are no errors, reported as a run of their iterator.
use Rattle.std.proofs.Common.{◌≡◌, ℕ, ◌+◌, ◌∷◌, [], ◌++◌, List, length, length-append, map, Option, None, Some, Result}
use Rattle.std.proofs.Common.{Ok, Err, IfOk, IfErr, arith, refl, ap, subst, true, false, inl, inr}
use Rattle.std.specs.Fn.{Called}
use Rattle.std.specs.Iterator.{Yields, YieldsThen}
use Rattle.std.specs.Iterator.Adapters.{map_source, map_steps}
use Rattle.core.proofs.iter.runs.Made.{run, to_end, to_item}
use denote.Param.Members.{Mut}
use Rattle.handles.specs.HeaderSlice.{HeaderAndItems}
use Rattle.handles.specs.HeaderSlice.Builders.{Builds, RefusesUpTo, RefusesRun}
use Rattle.handles.specs.HeaderSlice.TryBuilders.{IsBuiltGoodUpTo, RefusesGoodUpTo, FailsUpTo}
use Rattle.handles.specs.declared.header_slice.build.BuildError.{BuildError}
use Rattle.handles.specs.declared.header_slice.build.BuildError.TheVariants.{Memory, OverReported, UnderReported}

module _ {S A : Type 0} (steps : S → Option A → S → Type 0) (source : S) (n : ℕ) (after : S) where
  refuses_run : (refusal : BuildError)
      → RefusesUpTo steps source n after refusal → RefusesRun steps source n refusal
  refuses_run Memory unasked = tt
  refuses_run OverReported (items, given, fewer) =
      (run steps source items true (to_end steps source items (after, given)), refl, refl, fewer)
  refuses_run UnderReported (items, extra, given, right) =
      let one_more : length (items ++ extra ∷ [])
      ≡ n + 1 = omega (arith, length-append items (extra ∷ []), right) in
      (run steps source (items ++ extra ∷ []) false (to_item steps source after items extra given), refl, one_more)

-- the source of an iterator that makes an `Ok` of each item
module _ {S F A E : Type 0} (steps : S → Option A → S → Type 0) (call : Mut F (A × Unit {0}) (Result A E))
    (wraps : (f f' : F) (x : A) (r : Result A E) → Called call f (x, tt) r f' → r ≡ Ok x) where
  unwrapped : (f f' : F) (x y : A) → Called call f (x, tt) (Ok y) f' → x ≡ y
  unwrapped f f' x y called = let same = wraps f f' x (Ok y) called in cc

  came : (items : List A) (s t : _) → Yields (map_steps steps call) s (map Ok items) t
      → Yields steps (map_source s) items (map_source t)
  came [] s t same = ap map_source same
  came (y ∷ items) s t (mid, (x, step, called), rest) = (
    map_source mid,
    subst (λ z. steps (map_source s) (Some z) (map_source mid)) (unwrapped _ _ x y called) step,
    came items mid t rest,
  )

module _ {S F A : Type 0} (steps : S → Option A → S → Type 0) (call : Mut F (A × Unit {0}) (Result A BuildError))
    (wraps : (f f' : F) (x : A) (r : Result A BuildError) → Called call f (x, tt) r f' → r ≡ Ok x) (s : _) (n : ℕ)
    (after : _) where
  refuses : (refusal : BuildError) → RefusesGoodUpTo (map_steps steps call) s n after refusal
      → RefusesUpTo steps (map_source s) n (map_source after) refusal
  refuses Memory unasked = ap map_source unasked
  refuses OverReported (items, (t, given, ended), fewer) =
      (items, (map_source t, came steps call wraps items s t given, ended.0), fewer)
  refuses UnderReported (items, extra, (t, given, (x, step, called)), right) =
      (items, x, (map_source t, came steps call wraps items s t given, step), right)

  fails : (e : BuildError) → FailsUpTo (map_steps steps call) s n (λ x y. y ≡ x) after e
      → RefusesUpTo steps (map_source s) n (map_source after) e
  fails e (inl (items, (t, given, (x, step, called)), fewer)) = let same = wraps _ _ x (Err e) called in absurd (cc)
  fails e (inr (refusal, same, refused)) = rw same (refuses refusal refused)

  -- What a builder hears up to here is what it answers.
  answers : {H : Type 0} (header : H) (r : Result (HeaderAndItems H A) BuildError)
      → IfOk r (IsBuiltGoodUpTo (map_steps steps call) s n after header)
      → IfErr r (FailsUpTo (map_steps steps call) s n (λ x y. y ≡ x) after)
      → Builds steps (map_source s) n header r
  answers header (Ok slice) (same, (t, given, ended), right) _ =
      let end = map_source after in
      let all : YieldsThen steps (map_source s) slice.items None end = (
        map_source t,
        came steps call wraps slice.items s t given,
        ended.0,
      ) in record {
        built = (end, (same, (all, right)));
        refused = tt;
        runs = (
          run steps (map_source s) slice.items true (to_end steps (map_source s) slice.items (end, all)),
          refl,
          refl,
          refl,
        );
        refusals = tt;
      }
  answers header (Err e) _ failed = let refused = fails e failed in record {
    built = tt;
    refused = (map_source after, refused);
    runs = tt;
    refusals = refuses_run steps (map_source s) n (map_source after) e refused;
  }

  pub builds : {H : Type 0} (source : S) → map_source s ≡ source → (header : H)
      (r : Result (HeaderAndItems H A) BuildError)
      → IfOk r (IsBuiltGoodUpTo (map_steps steps call) s n after header)
      → IfErr r (FailsUpTo (map_steps steps call) s n (λ x y. y ≡ x) after) → Builds steps source n header r
  builds source is header r built failed =
      subst (λ z. Builds steps z n header r) is (answers header r built failed)
