-- The equality of header slices satisfies the laws that the equalities of the header and of the items satisfy.
use Rattle.std.specs.Prelude.{◌&&◌, Bool}
use Rattle.std.specs.Cmp.{IsPartialEquivalence, IsEquivalence, on_per, on_equiv, and_per, and_equiv}
use Rattle.std.specs.Cmp.Lexicographic.{pointwise, lists_per, lists_equiv}
use Rattle.handles.specs.HeaderSlice.{HeaderAndItems}

abbrev pub slice_eq : {H T : Type 0} → (H → H → Bool) → (T → T → Bool)
    → HeaderAndItems H T → HeaderAndItems H T → Bool
slice_eq R S x y = R x.header y.header && pointwise S x.items y.items

module _ {H T : Type 0} {R : H → H → Bool} {S : T → T → Bool} where
  abbrev pub slices_per : IsPartialEquivalence R → IsPartialEquivalence S → IsPartialEquivalence (slice_eq R S)
  slices_per r s =
      and_per (on_per (λ (x : HeaderAndItems H T). x.header) r)
      (on_per (λ (x : HeaderAndItems H T). x.items) (lists_per s))

  abbrev pub slices_equiv : IsEquivalence R → IsEquivalence S → IsEquivalence (slice_eq R S)
  slices_equiv r s =
      and_equiv (on_equiv (λ (x : HeaderAndItems H T). x.header) r)
      (on_equiv (λ (x : HeaderAndItems H T). x.items) (lists_equiv s))
