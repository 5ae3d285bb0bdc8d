-- An entry of a map has one of its values.
use Rattle.std.proofs.Common.{◌≡◌, ℕ, List, ap, arith, sym, ◌∙◌}
use Rattle.std.specs.List.{IsAmong}
use Rattle.std.specs.Map.{values_of}
use Rattle.std.specs.Option.{option_copied}
use Rattle.std.specs.Prelude.{Option, None, Some, IfSome, slice_get}
use denote.Ref.{Bor}
use Rattle.std.proofs.lemmas.List.{get_or-map, length-map}
use Rattle.std.proofs.lemmas.Option.{get_or_from_slice_get, slice_get_within}

pub among_values : {K V : Type 0} (es : List (K × V)) (i : ℕ) (e : K × V)
    → slice_get es i ≡ Some e → IsAmong (values_of es) e.1
among_values es i e is =
    let within = slice_get_within es i e is in (
      i,
      (
        omega (arith, within, length-map es (λ e. e.1)),
        sym (get_or-map (λ e. e.1) es i e e.1 within ∙ ap (λ e. e.1) (get_or_from_slice_get es i e e is)),
      ),
    )

pub some_among : {K V : Type 0} (es : List (K × V)) (i : ℕ) (e : Option (Bor (K × V)))
    → option_copied e ≡ slice_get es i → IfSome e (λ e. IsAmong (values_of es) e.now.1)
some_among es i None is = tt
some_among es i (Some e) is = among_values es i e.now (sym is)
