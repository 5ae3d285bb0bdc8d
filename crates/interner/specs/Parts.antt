-- A header with items is hashed and compared as the header slice of both.
use Rattle.std.specs.Prelude.{◌≡◌, Bool, true}
use Rattle.std.specs.Cmp.{IsEquivalence}
use Rattle.std.specs.Hash.{HashWrites, Alike}
use Rattle.handles.specs.HeaderSlice.{HeaderAndItems}
use Rattle.handles.specs.HeaderSlice.Laws.{slice_eq, slices_equiv}
use Rattle.handles.specs.HeaderSlice.Order.{slice_hash_input, slices_hash_alike}
use Rattle.interner.specs.Queries.{IsFormOf}

pub is_form_of_parts : {H T : Type 0} {R : H → H → Bool} {S : T → T → Bool} {F : H → HashWrites} {G : T → HashWrites}
    → IsEquivalence R → IsEquivalence S → Alike R F → Alike S G
    → (parts value : HeaderAndItems H T) → slice_eq R S parts value ≡ true
    → IsFormOf (slice_eq R S) (slice_eq R S parts) (slice_hash_input F G parts) (slice_hash_input F G value) value
is_form_of_parts r s f g parts value same = record {
  hashed = (slices_hash_alike f g).fed parts value same;
  equal = λ other. (slices_equiv r s).congr parts value other same;
}
