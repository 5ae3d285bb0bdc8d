-- What a builder is that heard clones of the items of a slice.
use Rattle.std.proofs.Common.{◌≡◌, ◌∙◌, ap, subst, ◌∷◌, [], List, length, map, None, Result, Ok, Err, IfOk, Bor, arith}
use Rattle.std.proofs.lemmas.List.Elements.{same_from_all_zip}
use Rattle.std.specs.Fn.{Called}
use Rattle.std.specs.Iterator.{Yields}
use Rattle.std.specs.Iterator.Adapters.{map_source, map_steps}
use Rattle.std.specs.List.{AllZip}
use Rattle.std.specs.Slice.Iter.{iter_rest, iter_steps}
use denote.Param.Members.{Mut}
use Rattle.handles.specs.Copies.{CopiesAreEqual}
use Rattle.handles.specs.HeaderSlice.{HeaderAndItems}
use Rattle.handles.specs.HeaderSlice.TryBuilders.{BuildsGood}
use Rattle.handles.specs.declared.header_slice.build.BuildError.{BuildError}

module _ {T E F : Type 0} (call : Mut F (Bor T × Unit {0}) (Result T E)) (clones : T → T → Type 0)
    (gives : (f f' : F) (x : Bor T) (y : T) → Called call f (x, tt) (Ok y) f' → clones x.now y) where
  none_left : (xs : List T) → length xs ≡ 0 → AllZip clones xs []
  none_left [] empty = tt
  none_left (x ∷ xs) empty = absurd (omega (arith, empty))

  all_clones : (ys : List T) (s t u : _) → Yields (map_steps iter_steps call) s (map Ok ys) t
      → map_steps iter_steps call t None u → AllZip clones (iter_rest (map_source s)) ys
  all_clones [] s t u same ended = rw same (none_left (iter_rest (map_source t)) ended.0.0)
  all_clones (y ∷ ys) s t u (mid, (x, came, called), rest) ended =
      rw came (gives _ _ x y called, all_clones ys mid t u rest ended)

  module _ {H : Type 0} (s : _) (n : _) (from : BuildError → E → Type 0) (header : H) (xs : List T)
      (source : iter_rest (map_source s) ≡ xs) where
    pub built_of_clones : (r : Result (HeaderAndItems H T) E)
        → BuildsGood (map_steps iter_steps call) s n from header r → IfOk r (λ slice. AllZip clones xs slice.items)
    built_of_clones (Ok slice) builds = let (after, (_, (t, given, ended), _)) = builds.built in
        subst (λ zs. AllZip clones zs slice.items) source (all_clones slice.items s t after given ended)
    built_of_clones (Err e) builds = tt

    pub built_of_equal : (r : Result (HeaderAndItems H T) E)
        → BuildsGood (map_steps iter_steps call) s n from header r
        → IfOk r (λ slice. CopiesAreEqual clones → slice ≡ record { header = header; items = xs })
    built_of_equal (Ok slice) builds = λ copies. let (after, (same, _, _)) = builds.built in
        ap {B = HeaderAndItems H T} (λ h. record { header = h; items = slice.items }) same
        ∙ ap {B = HeaderAndItems H T} (λ zs. record { header = header; items = zs })
        (same_from_all_zip clones xs slice.items (built_of_clones (Ok slice) builds) copies)
    built_of_equal (Err e) builds = tt
