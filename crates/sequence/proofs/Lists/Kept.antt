-- The items of which a test said `true`.
use Rattle.std.proofs.Common.{◌≡◌, ◌≤◌, suc, Bool, true, false, List, [], ◌∷◌, ◌++◌, length, refl, ap, sym, ◌∙◌}
use Rattle.std.proofs.Common.{append-nil, append_assoc, arith, subst}
use Rattle.std.specs.List.{items_where_true}
use Rattle.std.specs.List.Retain.{IsFiltered}

module _ {X : Type 0} where
  -- no more are kept than there are
  most_where : (bs : List Bool) (xs : List X) → length (items_where_true bs xs) ≤ length xs
  most_where [] xs = omega arith
  most_where (b ∷ bs) [] = omega arith
  most_where (true ∷ bs) (x ∷ xs) = omega (arith, most_where bs xs)
  most_where (false ∷ bs) (x ∷ xs) = omega (arith, most_where bs xs)

  -- if as many are kept, all are
  all_where : (bs : List Bool) (xs : List X) → length (items_where_true bs xs) ≡ length xs
      → items_where_true bs xs ≡ xs
  all_where [] [] same = refl
  all_where [] (x ∷ xs) same = absurd (omega (arith, same))
  all_where (b ∷ bs) [] same = refl
  all_where (true ∷ bs) (x ∷ xs) same = ap (λ ys. x ∷ ys) (all_where bs xs (omega (arith, same)))
  all_where (false ∷ bs) (x ∷ xs) same = absurd (omega (arith, same, most_where bs xs))

module _ {P X : Type 0} (R : P → X → Bool → P → Type 0) where
  -- one more item is tested
  filtered_yes : (p q : P) (x : X) (xs ys : List X) → R p x true q → IsFiltered R q xs ys
      → IsFiltered R p (x ∷ xs) (x ∷ ys)
  filtered_yes p q x xs ys says is =
      (true ∷ is.0, is.1, ap suc is.2, (q, says, is.3), ap (λ l. x ∷ l) is.4)

  filtered_no : (p q : P) (x : X) (xs ys : List X) → R p x false q → IsFiltered R q xs ys
      → IsFiltered R p (x ∷ xs) ys
  filtered_no p q x xs ys says is = (false ∷ is.0, is.1, ap suc is.2, (q, says, is.3), is.4)

  -- if as many items stay, all do
  pub filtered_all : (p : P) (xs ys : List X) → IsFiltered R p xs ys → length ys ≡ length xs → ys ≡ xs
  filtered_all p xs ys is same =
      is.4 ∙ all_where is.0 xs (ap (λ l. length l) (sym is.4) ∙ same)

  module _ (first : P) (all : List X) where
    -- those that were kept so far, and what is kept of the rest, are what is kept of all
    abbrev pub AreKept : P → List X → List X → Type 0
    AreKept p rest kept = (ys : List X) → IsFiltered R p rest ys → IsFiltered R first all (kept ++ ys)

    -- one more stays
    pub kept_yes : (p q : P) (x : X) (rest next kept more : List X) → AreKept p rest kept → rest ≡ x ∷ next
        → R p x true q → more ≡ kept ++ x ∷ [] → AreKept q next more
    kept_yes p q x rest next kept more are split says push ys is =
        subst (IsFiltered R first all) (sym (ap (λ l. l ++ ys) push ∙ append_assoc kept (x ∷ []) ys))
        (are (x ∷ ys) (subst (λ l. IsFiltered R p l (x ∷ ys)) (sym split) (filtered_yes p q x next ys says is)))

    -- or goes
    pub kept_no : (p q : P) (x : X) (rest next kept : List X) → AreKept p rest kept → rest ≡ x ∷ next
        → R p x false q → AreKept q next kept
    kept_no p q x rest next kept are split says ys is =
        are ys (subst (λ l. IsFiltered R p l ys) (sym split) (filtered_no p q x next ys says is))

    -- at the end all are kept
    pub kept_all : (p : P) (rest kept : List X) → AreKept p rest kept → rest ≡ [] → IsFiltered R first all kept
    kept_all p rest kept are none =
        subst (IsFiltered R first all) (append-nil kept)
        (are [] (subst (λ l. IsFiltered R p l []) (sym none) ([], p, refl, refl, refl)))
