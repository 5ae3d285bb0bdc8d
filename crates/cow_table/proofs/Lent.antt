-- Vectors that `make_mut` lends.
use Rattle.std.proofs.Common.{◌≡◌, ◌⊎◌, inl, inr, ℕ, List, get_or, set, ap, ◌∙◌, vec_len}
use Rattle.std.proofs.lemmas.List.{set-get_or}
use Rattle.std.proofs.lemmas.List.Elements.{same_from_all_zip}
use Rattle.std.specs.List.{AllZip}
use Rattle.std.specs.Vec.{vec_items}
use Rattle.std.specs.declared.vec.Vec.{Vec}

-- if copies of items are equal, a vector that is lent has the items of the old one, whether it was copied or not
pub lent_items : {X A : Type 0} (R : X → X → Type 0) → ((x y : X) → R x y → y ≡ x) → (old lent : Vec X A)
    → (lent ≡ old) ⊎ (AllZip R (vec_items old) (vec_items lent) × (vec_len lent ≡ vec_len old))
    → vec_items lent ≡ vec_items old
lent_items R same old lent (inl is) = ap vec_items is
lent_items R same old lent (inr copied) = same_from_all_zip R (vec_items old) (vec_items lent) copied.0 same

-- an item that was read is written back
pub set-read : {X : Type 0} (xs : List X) (i : ℕ) (x : X) → x ≡ get_or xs i x → set xs i x ≡ xs
set-read xs i x read = ap (λ y. set xs i y) read ∙ set-get_or xs i x
