-- A log written by hand, computed by the definitions, to read them by. No contract uses it.
use Rattle.std.proofs.Common.{◌≡◌, ℕ, zero, suc, ◌+◌, true, List, [], ◌∷◌, Contains, refl, sym, ap, arith}
use Rattle.std.proofs.Common.{true≢false}
use Rattle.counting_word.specs.CountingWord.{mark_bit}
use Rattle.counting_word.specs.Rights.{Right, nothing, a_handle, to_lower}
use Rattle.counting_word.specs.WordSteps.{reads, asks, raises_from, reads_for_drop, lowers, reads_for_unique, marks}
use Rattle.counting_word.specs.Logs.{Entry, made, static_handle, static_birth, entry_right, word_after, left_by}
use Rattle.counting_word.specs.Tallies.{lives, ended, Tally, first, tally_after, tally_of, tally_right, IsRun}

-- Three handles. Handle 0 is cloned, and the clone, handle 1, begins its drop. Handle 0 reads for another clone, and
-- the block is marked before its raise, which then finds the mark: so handle 2 is born. The drop ends. Handle 2 makes a
-- handle more with no step, and ends by one read.
written : List Entry
written =
    made 0 reads ∷ made 0 (raises_from 1) ∷ made 1 reads_for_drop ∷ made 0 reads ∷ made 0 marks
    ∷ made 0 (raises_from 2) ∷ made 1 lowers ∷ made 2 reads_for_unique
    ∷ record { handle = 2; kind = static_handle } ∷ made 2 reads_for_drop ∷ made 3 asks ∷ []

-- the word that each entry finds
abbrev found_by : ℕ → List Entry → List ℕ
found_by word [] = []
found_by word (e ∷ es) = word ∷ found_by (word_after e.kind word) es

-- what each entry leaves its maker with, by the word, and by the tally
abbrev rights_by : ℕ → List Entry → List Right
rights_by word [] = []
rights_by word (e ∷ es) = entry_right e.kind word ∷ rights_by (word_after e.kind word) es

abbrev rights_from : Tally → List Entry → List Right
rights_from p [] = []
rights_from p (e ∷ es) = tally_right p e.kind ∷ rights_from (tally_after p e) es

abbrev rights : List Right
rights = nothing ∷ a_handle ∷ to_lower ∷ nothing ∷ nothing ∷ a_handle ∷ nothing ∷ a_handle ∷ a_handle ∷ nothing
    ∷ nothing ∷ []

abbrev marked : ℕ → ℕ
marked n = mark_bit + n

it_is_a_run : IsRun 3 written
unfolding written
it_is_a_run = (
  refl,
  (
    (refl, (0, omega arith, refl), omega arith),
    (
      refl,
      (
        refl,
        (
          refl,
          (
            (refl, (0, omega arith, refl), omega arith),
            (refl, (refl, ((refl, refl), (refl, (refl, tt))))),
          ),
        ),
      ),
    ),
  ),
)

its_words : found_by 1 written ≡ (1 ∷ 1 ∷ 2 ∷ 2 ∷ 2 ∷ marked 2 ∷ marked 2 ∷ marked 1 ∷ marked 1 ∷ marked 1
    ∷ marked 1 ∷ [])
unfolding written
its_words = refl

its_rights_by_the_word : rights_by 1 written ≡ rights
unfolding written
its_rights_by_the_word = refl

its_rights_by_the_tally : rights_from first written ≡ rights
unfolding written
its_rights_by_the_tally = refl

it_comes_to : tally_of written ≡ record {
  handles = lives ∷ ended ∷ ended ∷ lives ∷ [];
  found = (0, 2) ∷ (0, 1) ∷ [];
  mark = true;
}
unfolding written
it_comes_to = refl

it_leaves : left_by written ≡ marked 1
unfolding written
it_leaves = refl

-- No runs: the only handle has made its read for drop; a handle that was never born; a lower by a handle that is not
-- dropping; a raise that rests on no read; one that rests on another handle's; a raise from the limit; a handle with no
-- step, on an unmarked block; and a block that is marked with no step though two handles share it.
nobody_is_left : IsRun 3 (made 0 reads_for_drop ∷ made 0 asks ∷ []) → ⊥
nobody_is_left run = absurd (cc)

nobody_was_born : IsRun 3 (made 1 asks ∷ []) → ⊥
nobody_was_born run = absurd (cc)

no_drop_is_in_flight : IsRun 3 (made 0 reads ∷ made 0 lowers ∷ []) → ⊥
no_drop_is_in_flight run = absurd (cc)

no_raise_without_a_read : IsRun 3 (made 0 (raises_from 1) ∷ []) → ⊥
no_raise_without_a_read run = absurd (omega (arith, run.0.1.1))

no_raise_by_another_handle :
    IsRun 3 (made 0 reads ∷ made 0 (raises_from 1) ∷ made 0 reads ∷ made 1 (raises_from 2) ∷ []) → ⊥
no_raise_by_another_handle run = others run.1.1.1.0.1 where
  others : Contains {X = ℕ × ℕ} ((0, 2) ∷ (0, 1) ∷ []) (1, 2) → ⊥
  others (zero, low, is) = absurd (let e : 0 ≡ 1 = ap (λ (x : ℕ × ℕ). x.0) is in omega (arith, e))
  others (suc zero, low, is) = absurd (let e : 0 ≡ 1 = ap (λ (x : ℕ × ℕ). x.0) is in omega (arith, e))
  others (suc (suc k), low, is) = absurd (omega (arith, low))

no_raise_from_the_limit : IsRun 2 (made 0 reads ∷ made 0 (raises_from 1) ∷ made 0 reads ∷ made 0 (raises_from 2) ∷ [])
    → ⊥
no_raise_from_the_limit run = absurd (omega (arith, run.1.1.1.0.2))

no_handle_of_an_unmarked_block : IsRun 3 (record { handle = 0; kind = static_handle } ∷ []) → ⊥
no_handle_of_an_unmarked_block run = absurd (true≢false (sym run.0.1))

no_early_mark_of_a_shared_block :
    IsRun 3 (made 0 reads ∷ made 0 (raises_from 1) ∷ record { handle = 0; kind = static_birth } ∷ []) → ⊥
no_early_mark_of_a_shared_block run = absurd (true≢false (sym run.1.1.0.1))
