-- How many handles are counted and how many are dropping, after a birth and after a change of one handle's standing.
use Rattle.std.proofs.Common.{◌≡◌, ℕ, zero, suc, ◌+◌, ◌<◌, ◌≤◌, Bool, true, cond, List, [], ◌∷◌}
use Rattle.std.proofs.Common.{length, get_or, set, refl, sym, ◌∙◌, ap, arith, count_by}
use Rattle.std.proofs.lemmas.List.Sums.{sum_by-set, sum_by-append, sum_by-cons}
use Rattle.counting_word.specs.Tallies.{Standing, lives, dropping, ended, is_dropping, is_counted, Tally, standing_of}
use Rattle.counting_word.specs.Tallies.{counted, drops, one_more, goes_to}

abbrev one_if : (Standing → Bool) → Standing → ℕ
one_if test s = cond (test s) 1 0

-- a handle that has not ended was born
pub born : (hs : List Standing) (h : ℕ) (s : Standing) → is_counted s ≡ true → get_or hs h ended ≡ s → h < length hs
born [] h lives is e = absurd (cc)
born [] h dropping is e = absurd (cc)
born [] h ended is e = absurd (cc)
born (x ∷ xs) zero s is e = omega arith
born (x ∷ xs) (suc h) s is e = let low : h < length xs = born xs h s is e in omega arith

module _ (p : Tally) where
  pub counted-more : counted (one_more p) ≡ counted p + 1
  counted-more = sum_by-append (one_if is_counted) p.handles (lives ∷ [])

  pub drops-more : drops (one_more p) ≡ drops p
  drops-more = sum_by-append (one_if is_dropping) p.handles (lives ∷ []) ∙ omega arith

  module _ (h : ℕ) (s : Standing) (is : is_counted s ≡ true) (e : standing_of p h ≡ s) where
    low : h < length p.handles
    low = born p.handles h s is e

    -- the numbers before and after the handle goes on to another standing
    changed : (test : Standing → Bool) (t : Standing)
        → count_by test (set p.handles h t) + one_if test s ≡ count_by test p.handles + one_if test t
    changed test t = ap (λ z. count_by test (set p.handles h t) + one_if test z) (sym e)
        ∙ sum_by-set (one_if test) p.handles h t ended low

  -- a read for drop on an unmarked block
  pub counted-drop : (h : ℕ) → standing_of p h ≡ lives → counted (goes_to p h dropping) ≡ counted p
  counted-drop h e = let both : counted (goes_to p h dropping) + 1 ≡ counted p + 1 =
      changed h lives refl e is_counted dropping in omega arith

  -- and on a marked one
  pub drops-end : (h : ℕ) → standing_of p h ≡ lives → drops (goes_to p h ended) ≡ drops p
  drops-end h e = let both : drops (goes_to p h ended) + 0 ≡ drops p + 0 =
      changed h lives refl e is_dropping ended in omega arith

  -- a lower
  pub counted-lower : (h : ℕ) → standing_of p h ≡ dropping → counted (goes_to p h ended) + 1 ≡ counted p
  counted-lower h e = let both : counted (goes_to p h ended) + 1 ≡ counted p + 0 =
      changed h dropping refl e is_counted ended in omega arith

  pub drops-lower : (h : ℕ) → standing_of p h ≡ dropping → drops (goes_to p h ended) + 1 ≡ drops p
  drops-lower h e = let both : drops (goes_to p h ended) + 1 ≡ drops p + 0 =
      changed h dropping refl e is_dropping ended in omega arith

-- those that are dropping are among those that are counted
pub drops-few : (hs : List Standing) → count_by is_dropping hs ≤ count_by is_counted hs
drops-few [] = omega arith
drops-few (lives ∷ hs) = let few : count_by is_dropping hs ≤ count_by is_counted hs = drops-few hs in
    let one : count_by is_dropping (lives ∷ hs) ≡ 0 + count_by is_dropping hs = sum_by-cons
    (one_if is_dropping) lives hs in
    let two : count_by is_counted (lives ∷ hs) ≡ 1 + count_by is_counted hs = sum_by-cons
    (one_if is_counted) lives hs in
    omega arith
drops-few (dropping ∷ hs) = let few : count_by is_dropping hs ≤ count_by is_counted hs = drops-few hs in
    let one : count_by is_dropping (dropping ∷ hs) ≡ 1 + count_by is_dropping hs = sum_by-cons
    (one_if is_dropping) dropping hs in
    let two : count_by is_counted (dropping ∷ hs) ≡ 1 + count_by is_counted hs = sum_by-cons
    (one_if is_counted) dropping hs in
    omega arith
drops-few (ended ∷ hs) = let few : count_by is_dropping hs ≤ count_by is_counted hs = drops-few hs in
    let one : count_by is_dropping (ended ∷ hs) ≡ 0 + count_by is_dropping hs = sum_by-cons
    (one_if is_dropping) ended hs in
    let two : count_by is_counted (ended ∷ hs) ≡ 0 + count_by is_counted hs = sum_by-cons
    (one_if is_counted) ended hs in
    omega arith
