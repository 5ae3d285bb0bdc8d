-- Items in place of others, within a longer list.
use Rattle.std.proofs.Common.{◌≡◌, ℕ, ◌+◌, ◌<◌, ◌≤◌, zero, suc, List, [], ◌∷◌, ◌++◌, length, take, drop, set}
use Rattle.std.proofs.Common.{refl, ap, sym, ◌∙◌}
use Rattle.std.proofs.Common.{add-one, arith, append-nil, append_assoc, length-append, length-take}
use Rattle.std.proofs.Common.{length-drop}
use Rattle.std.specs.Prelude.{slice_get}
use Rattle.std.specs.List.{remove}
use Rattle.std.proofs.lemmas.List.{set_split}
use Rattle.std.proofs.Math.Seq.{take-append-add, take-append-le, drop-append-add, drop-append-le}
use Rattle.sequence.specs.Spots.{spliced}

module _ {T : Type 0} where
  -- in the back of a list
  splice_back : (l m : List T) (p gone : ℕ) (more : List T)
      → spliced (length l + p) gone more (l ++ m) ≡ l ++ spliced p gone more m
  splice_back l m p gone more =
      let after : length l + p + gone ≡ length l + (p + gone) = omega arith in
      ap (λ (xs : List T). xs ++ (more ++ drop (length l + p + gone) (l ++ m))) (take-append-add l m p)
      ∙ ap (λ (n : ℕ). (l ++ take p m) ++ (more ++ drop n (l ++ m))) after
      ∙ ap (λ (xs : List T). (l ++ take p m) ++ (more ++ xs)) (drop-append-add l m (p + gone))
      ∙ append_assoc l (take p m) (more ++ drop (p + gone) m)

  -- in the front
  splice_front : (m r : List T) (p gone : ℕ) (more : List T) → p + gone ≤ length m
      → spliced p gone more (m ++ r) ≡ spliced p gone more m ++ r
  splice_front m r p gone more h =
      ap (λ (xs : List T). xs ++ (more ++ drop (p + gone) (m ++ r))) (take-append-le p m r (omega (arith, h)))
      ∙ ap (λ (xs : List T). take p m ++ (more ++ xs)) (drop-append-le (p + gone) m r h)
      ∙ ap (λ (xs : List T). take p m ++ xs) (sym (append_assoc more (drop (p + gone) m) r))
      ∙ sym (append_assoc (take p m) (more ++ drop (p + gone) m) r)

  -- in the middle
  pub splice_between : (l m r : List T) (at p gone : ℕ) (more : List T) → at ≡ length l + p → p + gone ≤ length m
      → spliced at gone more (l ++ (m ++ r)) ≡ l ++ (spliced p gone more m ++ r)
  splice_between l m r at p gone more place h =
      ap (λ (n : ℕ). spliced n gone more (l ++ (m ++ r))) place
      ∙ splice_back l (m ++ r) p gone more ∙ ap (λ (xs : List T). l ++ xs) (splice_front m r p gone more h)

  -- behind all
  pub splice_end : (es more : List T) → spliced (length es) 0 more es ≡ es ++ more
  splice_end [] more = append-nil more
  splice_end (e ∷ es) more =
      let next : suc (length es) + 0 ≡ suc (length es + 0) = omega arith in
      ap (λ (n : ℕ). e ∷ (take (length es) es ++ (more ++ drop n (e ∷ es)))) next
      ∙ ap (λ (xs : List T). e ∷ xs) (splice_end es more)

  -- how many there are then
  pub length-spliced : (at gone : ℕ) (more es : List T) → at + gone ≤ length es
      → length (spliced at gone more es) + gone ≡ length es + length more
  length-spliced at gone more es h =
      omega (
        arith,
        length-append (take at es) (more ++ drop (at + gone) es),
        length-append more (drop (at + gone) es),
        length-take at es,
        length-drop (at + gone) es,
      )

  -- an item of the front by its number
  get_front : (m r : List T) (k : ℕ) → k < length m → slice_get (m ++ r) k ≡ slice_get m k
  get_front [] r k h = absurd (omega (arith, h))
  get_front (x ∷ m) r zero h = refl
  get_front (x ∷ m) r (suc k) h = get_front m r k (omega (arith, h))

  -- an item of the back by its number
  get_back : (l m : List T) (n k : ℕ) → n ≡ length l + k → slice_get (l ++ m) n ≡ slice_get m k
  get_back [] m n k is = let same : n ≡ k = omega (arith, is) in ap (slice_get m) same
  get_back (x ∷ l) m zero k is = absurd (omega (arith, is))
  get_back (x ∷ l) m (suc n) k is = get_back l m n k (omega (arith, is))

  -- and of the middle
  pub get_between : (l m r : List T) (n k : ℕ) → n ≡ length l + k → k < length m
      → slice_get (l ++ (m ++ r)) n ≡ slice_get m k
  get_between l m r n k is h = get_back l (m ++ r) n k is ∙ get_front m r k h

  -- items that come in
  pub come_in : (more es : List T) (at : ℕ) → take at es ++ (more ++ drop at es) ≡ spliced at 0 more es
  come_in more es at =
      let same : at ≡ at + 0 = omega arith in ap (λ (n : ℕ). take at es ++ (more ++ drop n es)) same

  -- a removal
  pub remove_spliced : (es : List T) (at : ℕ) → remove es at ≡ spliced at 1 [] es
  remove_spliced es at = ap (λ (n : ℕ). take at es ++ drop n es) (sym (add-one at))

  -- a write puts one in place of one
  pub set_spliced : (es : List T) (at : ℕ) (x : T) → at < length es → set es at x ≡ spliced at 1 (x ∷ []) es
  set_spliced es at x h = set_split es at x h ∙ ap (λ (n : ℕ). take at es ++ x ∷ drop n es) (sym (add-one at))
