-- Header slices that `==` finds equal.
use Rattle.std.proofs.Common.{◌≡◌, Bool, true, ◌&&◌, ap, ap₂, arith}
use Rattle.std.specs.Bool.{Decides}
use Rattle.std.specs.Cmp.Lexicographic.{pointwise, pointwise_decides}
use Rattle.handles.specs.HeaderSlice.{HeaderAndItems}
use Rattle.handles.specs.HeaderSlice.Laws.{slice_eq}

-- they are one where the `==` of headers and that of items find no two values equal
module _ {H T : Type 0} {R : H → H → Bool} {S : T → T → Bool} (headers : (x y : H) → Decides (R x y) (x ≡ y))
    (items : (x y : T) → Decides (S x y) (x ≡ y)) where
  pub slices_decide : (x y : HeaderAndItems H T) → Decides (slice_eq R S x y) (x ≡ y)
  slices_decide x y = (same, equal)
    where
      same : slice_eq R S x y ≡ true → x ≡ y
      same is =
          let one : R x.header y.header ≡ true = grind (arith, is) in
          let rest : pointwise S x.items y.items ≡ true = grind (arith, is) in
          ap₂ (λ h xs. record { header = h; items = xs }) ((headers x.header y.header).0 one)
          ((pointwise_decides items x.items y.items).0 rest)

      equal : x ≡ y → slice_eq R S x y ≡ true
      equal is =
          let one = (headers x.header y.header).1 (ap (λ (s : HeaderAndItems H T). s.header) is) in
          let rest = (pointwise_decides items x.items y.items).1 (ap (λ (s : HeaderAndItems H T). s.items) is) in
          grind (arith, one, rest)
