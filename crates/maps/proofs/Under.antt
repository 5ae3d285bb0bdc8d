-- What a map has under a key, and what a change under the key makes of it, by the number of its entry.
use Rattle.std.proofs.Common.{◌≡◌, ◌+◌, ℕ, List, [], ◌∷◌, ◌++◌, take, drop, set, ap, sym, ◌∙◌}
use Rattle.std.proofs.Common.{cond, option_map, refl, true, false}
use Rattle.std.specs.Ordering.{is_eq}
use Rattle.std.proofs.Common.{arith, add-one, take-append-drop}
use Rattle.std.specs.Prelude.{None, Some, slice_get}
use Rattle.std.specs.List.{insert, remove}
use Rattle.std.proofs.lemmas.List.{drop_more, set_split, length-take-le}
use Rattle.std.proofs.lemmas.Option.{get_or_from_slice_get, slice_get_within}
use Rattle.std.specs.declared.cmp.Ordering.{Ordering}
use Rattle.maps.specs.Maps.{entry_by, found, lookup_by, rank_by, with_entry, without_by}
use Rattle.maps.specs.Places.{IsFound, IsMissing}
use Rattle.maps.proofs.Between.{found_same, found_new, rank_new, rank_same}
use Rattle.maps.proofs.Between.{with_same, with_new, without_new, without_same}

-- a list around one item
pub split_at : {X : Type 0} (xs : List X) (i : ℕ) (x : X) → slice_get xs i ≡ Some x
    → xs ≡ take i xs ++ x ∷ drop (i + 1) xs
split_at xs i x is =
    sym (take-append-drop i xs) ∙ ap (λ r. take i xs ++ r) (drop_more xs i x (slice_get_within xs i x is))
    ∙ ap (λ y. take i xs ++ y ∷ drop (i + 1) xs) (get_or_from_slice_get xs i x x is)

module _ {K V : Type 0} (order : K → Ordering) where
  module _ (es : List (K × V)) (i : ℕ) (there : IsFound order es i) where
    -- what is found at an equal key
    pub found_there : {X : Type 0} (of : K × V → X) → found order of es ≡ Some (of there.entry)
    found_there of =
        ap (found order of) (split_at es i there.entry there.is)
        ∙ found_same order of (take i es) there.entry (drop (i + 1) es) there.between there.equal

    -- its removal
    pub without_found : without_by order es ≡ remove es i
    without_found =
        ap (without_by order) (split_at es i there.entry there.is)
        ∙ without_same order (take i es) there.entry (drop (i + 1) es) there.between there.equal
        ∙ ap (λ (n : ℕ). take i es ++ drop n es) (add-one i)

    -- its rank
    pub rank_found : rank_by order es ≡ i
    rank_found =
        ap (rank_by order) (split_at es i there.entry there.is)
        ∙ rank_same order (take i es) there.entry (drop (i + 1) es) there.between there.equal
        ∙ length-take-le i es (omega (arith, slice_get_within es i there.entry there.is))

  module _ (es : List (K × V)) (i : ℕ) (is : IsMissing order es i) where
    -- what is found if no key is equal
    pub found_missing : {X : Type 0} (of : K × V → X) → found order of es ≡ None
    found_missing of =
        ap (found order of) (sym (take-append-drop i es)) ∙ found_new order of (take i es) (drop i es) is.between

    -- then nothing is removed
    pub without_missing : without_by order es ≡ es
    without_missing =
        ap (without_by order) (sym (take-append-drop i es))
        ∙ without_new order (take i es) (drop i es) is.between ∙ take-append-drop i es

    -- its rank
    pub rank_missing : rank_by order es ≡ i
    rank_missing =
        ap (rank_by order) (sym (take-append-drop i es)) ∙ rank_new order (take i es) (drop i es) is.between
        ∙ length-take-le i es is.within

  -- the value is that of the entry
  pub value_is : (es : List (K × V)) → lookup_by order es ≡ option_map (λ e. e.1) (entry_by order es)
  value_is [] = refl
  value_is (e ∷ es) =
      elim (is_eq (order e.0)) as (λ b. cond b (Some e.1) (lookup_by order es)
      ≡ option_map (λ e. e.1) (cond b (Some e) (entry_by order es))) [ true ↦ refl | false ↦ value_is es ]

module _ {K V : Type 0} (cmp : K → K → Ordering) (q : K) (es : List (K × V)) (i : ℕ) where
  -- a change under a key that was found
  pub with_found : (there : IsFound (cmp q) es i) → (v : V) → with_entry cmp q v es ≡ set es i (there.entry.0, v)
  with_found there v =
      let e = there.entry in
      ap (with_entry cmp q v) (split_at es i e there.is)
      ∙ with_same cmp q v (take i es) e (drop (i + 1) es) there.between there.equal
      ∙ ap (λ (n : ℕ). take i es ++ (e.0, v) ∷ drop n es) (add-one i)
      ∙ sym (set_split es i (e.0, v) (slice_get_within es i e there.is))

  -- under one that was not
  pub with_missing : IsMissing (cmp q) es i → (v : V) → with_entry cmp q v es ≡ insert es i (q, v)
  with_missing is v =
      ap (with_entry cmp q v) (sym (take-append-drop i es)) ∙ with_new cmp q v (take i es) (drop i es) is.between
