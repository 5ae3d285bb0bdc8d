-- The order and the hash of header slices satisfy the laws that those of the header and of the items satisfy.
use Rattle.std.specs.Prelude.{◌≡◌, ◌++◌, Bool, Option}
use Rattle.std.specs.declared.cmp.Ordering.{Ordering}
use Rattle.std.specs.Cmp.{IsPartialOrder, IsTotalOrder, Agrees, on_po, on_total, then_po, then_total, then_agrees}
use Rattle.std.specs.Cmp.{both_tied}
use Rattle.std.specs.Cmp.Lexicographic.{slice_cmp, slice_partial_cmp, lists_po, lists_total, lists_agrees}
use Rattle.std.specs.Cmp.Lexicographic.{lists_ties}
use Rattle.std.specs.Hash.{HashWrites, Alike, slice, on_Alike, items_Alike, and-Alike}
use Rattle.std.specs.Ordering.{ordering_then, partial_ordering_then, eq_by_cmp}
use Rattle.handles.specs.HeaderSlice.{HeaderAndItems}
use Rattle.handles.specs.HeaderSlice.Laws.{slice_eq}

-- the headers decide, and the items where the headers are equal
abbrev pub slice_order : {H T : Type 0} → (H → H → Ordering) → (T → T → Ordering)
    → HeaderAndItems H T → HeaderAndItems H T → Ordering
slice_order P Q x y = ordering_then (P x.header y.header) (slice_cmp Q x.items y.items)

abbrev pub slice_partial_order : {H T : Type 0} → (H → H → Option Ordering) → (T → T → Option Ordering)
    → HeaderAndItems H T → HeaderAndItems H T → Option Ordering
slice_partial_order C D x y = partial_ordering_then (C x.header y.header) (slice_partial_cmp D x.items y.items)

-- the header is hashed, and then the items as those of a slice
abbrev pub slice_hash_input : {H T : Type 0} → (H → HashWrites) → (T → HashWrites)
    → HeaderAndItems H T → HashWrites
slice_hash_input F G x = F x.header ++ slice G x.items

module _ {H T : Type 0} {R : H → H → Bool} {S : T → T → Bool} where
  abbrev pub slices_po : {C : H → H → Option Ordering} {D : T → T → Option Ordering}
      → IsPartialOrder R C → IsPartialOrder S D → IsPartialOrder (slice_eq R S) (slice_partial_order C D)
  slices_po c d =
      then_po (on_po (λ (x : HeaderAndItems H T). x.header) c)
      (on_po (λ (x : HeaderAndItems H T). x.items) (lists_po d))

  abbrev pub slices_tie : (P : H → H → Ordering) (Q : T → T → Ordering)
      → ((x y : H) → R x y ≡ eq_by_cmp P x y) → ((x y : T) → S x y ≡ eq_by_cmp Q x y)
      → (x y : HeaderAndItems H T) → slice_eq R S x y ≡ eq_by_cmp (slice_order P Q) x y
  slices_tie P Q p q x y =
      both_tied _ _ (P x.header y.header) (slice_cmp Q x.items y.items)
      (p x.header y.header) (lists_ties Q q x.items y.items)

  abbrev pub slices_hash_alike : {F : H → HashWrites} {G : T → HashWrites}
      → Alike R F → Alike S G → Alike (slice_eq R S) (slice_hash_input F G)
  slices_hash_alike f g =
      and-Alike (on_Alike (λ (x : HeaderAndItems H T). x.header) f)
      (on_Alike (λ (x : HeaderAndItems H T). x.items) (items_Alike g))

module _ {H T : Type 0} {P : H → H → Ordering} {Q : T → T → Ordering} where
  abbrev pub slices_total : IsTotalOrder P → IsTotalOrder Q → IsTotalOrder (slice_order P Q)
  slices_total p q =
      then_total (on_total (λ (x : HeaderAndItems H T). x.header) p)
      (on_total (λ (x : HeaderAndItems H T). x.items) (lists_total q))

  abbrev pub slices_agree : {C : H → H → Option Ordering} {D : T → T → Option Ordering}
      → Agrees C P → Agrees D Q → Agrees (slice_partial_order C D) (slice_order P Q)
  slices_agree c d =
      then_agrees (λ (x y : HeaderAndItems H T). c x.header y.header)
      (λ (x y : HeaderAndItems H T). lists_agrees d x.items y.items)
