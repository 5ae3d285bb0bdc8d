-- What a word shows, and what it stands for after each step on it.
use Rattle.std.proofs.Common.{◌≡◌, ◌≢◌, ℕ, ◌+◌, ◌-◌, ◌*◌, ◌/◌, ◌%◌, ◌^◌, ◌<◌}
use Rattle.std.proofs.Common.{◌≤◌, Bool, true, false, not, ◌&&◌, nat_eq, bit_or, bit_and, refl, sym}
use Rattle.std.proofs.Common.{◌∙◌, ap, arith, true≢false, leb-true, leb-false, le-leb, eq-eqb, ne_eqb}
use Rattle.std.proofs.Common.{if◌then◌else◌}
use Rattle.std.proofs.lemmas.Bool.{lt-leb}
use Rattle.std.proofs.lemmas.Nat.Bits.{and_high}
use Rattle.std.specs.Int.Bits.{or_add_and}
use Rattle.counting_word.specs.CountingWord.{mark_bit, greatest_count, is_marked_word, count_of, is_one_handle}
use Rattle.counting_word.specs.CountingWord.{marked_word, IsWithin, StandsFor}

pub count_of-unmarked : (word : ℕ) → is_marked_word word ≡ false → count_of word ≡ word
count_of-unmarked word unmarked =
    let low : word < mark_bit = leb-false mark_bit word unmarked in
    omega arith

-- an unmarked word is the number of live handles
pub word-unmarked : (word live in_drop : ℕ) (mark : Bool) → is_marked_word word ≡ false
    → StandsFor word mark live in_drop → word ≡ live
word-unmarked word live in_drop mark unmarked s =
    sym (count_of-unmarked word unmarked) ∙ s.counts_live (sym s.same_mark ∙ unmarked)

-- a word shows whether the block is unmarked with exactly n live handles: a marked one, that it is not
pub exactly-marked : (word live in_drop n : ℕ) (mark : Bool) → is_marked_word word ≡ true
    → StandsFor word mark live in_drop → (not mark && nat_eq live n) ≡ false
exactly-marked word live in_drop n mark marked s =
    ap (λ (b : Bool). not b && nat_eq live n) (sym s.same_mark ∙ marked)

-- and an unmarked one, by its count
pub exactly-unmarked : (word live in_drop n : ℕ) (mark : Bool) → is_marked_word word ≡ false
    → StandsFor word mark live in_drop → (not mark && nat_eq live n) ≡ nat_eq (count_of word) n
exactly-unmarked word live in_drop n mark unmarked s =
    let is : mark ≡ false = sym s.same_mark ∙ unmarked in
    ap (λ (b : Bool). not b && nat_eq live n) is ∙ ap (λ (k : ℕ). nat_eq k n) (sym (s.counts_live is))

-- a marked word is never that of one handle alone
pub is_one_handle-marked : (word : ℕ) → is_marked_word word ≡ true → is_one_handle word ≡ false
is_one_handle-marked word marked =
    let high : mark_bit ≤ word = leb-true mark_bit word marked in
    ne_eqb word 1 (λ one. omega arith)

-- an unmarked word is that of one handle exactly if one handle lives
pub is_one_handle-unmarked : (word live in_drop : ℕ) → StandsFor word false live in_drop
    → is_one_handle word ≡ nat_eq live 1
is_one_handle-unmarked word live in_drop s =
    ap (λ (n : ℕ). nat_eq n 1) (word-unmarked word live in_drop false s.same_mark s)

-- a word is that of one handle exactly if the block is unmarked with one live handle
pub is_one_handle-exactly : (word live in_drop : ℕ) (mark : Bool) → StandsFor word mark live in_drop
    → is_one_handle word ≡ (not mark && nat_eq live 1)
is_one_handle-exactly word live in_drop true s = is_one_handle-marked word s.same_mark
is_one_handle-exactly word live in_drop false s = is_one_handle-unmarked word live in_drop s

-- The word of a new block with n handles. Without the mark the drops in flight are among the live handles, however
-- many they are.
pub stands-new : (n in_drop : ℕ) → n < mark_bit → StandsFor n false n in_drop
stands-new n in_drop small = let count : n % mark_bit ≡ n = omega arith in record {
  same_mark = lt-leb mark_bit n small;
  counts_live = λ _. count;
  covers_drops = λ m. absurd (true≢false (sym m));
}

pub stands-one : StandsFor 1 false 1 0
stands-one = stands-new 1 0 (omega arith)

-- on a marked word handles come and go with no step
pub stands-live : (word live live' in_drop : ℕ) (mark : Bool) → is_marked_word word ≡ true
    → StandsFor word mark live in_drop → StandsFor word mark live' in_drop
stands-live word live live' in_drop mark marked s = record {
  same_mark = s.same_mark;
  counts_live = λ m. absurd (true≢false (sym marked ∙ (s.same_mark ∙ m)));
  covers_drops = s.covers_drops;
}

-- on an unmarked word a drop comes in flight with no step
pub stands-in_drop : (word live in_drop in_drop' : ℕ) (mark : Bool) → is_marked_word word ≡ false
    → StandsFor word mark live in_drop → StandsFor word mark live in_drop'
stands-in_drop word live in_drop in_drop' mark unmarked s = record {
  same_mark = s.same_mark;
  counts_live = s.counts_live;
  covers_drops = λ m. absurd (true≢false (sym m ∙ (sym s.same_mark ∙ unmarked)));
}

-- no count is above the greatest
pub within_greatest : (word : ℕ) → IsWithin word greatest_count
within_greatest word unmarked = let at_most : word % mark_bit ≤ greatest_count = omega arith in
    at_most

-- an unmarked word whose count is not the limit has room for one more
pub below_limit : (word limit : ℕ) → IsWithin word limit → is_marked_word word ≡ false
    → nat_eq (count_of word) limit ≡ false → word < limit
below_limit word limit within unmarked other =
    let is : count_of word ≡ word = count_of-unmarked word unmarked in
    let not_full : word ≢ limit =
    (λ e. true≢false (sym (eq-eqb (count_of word) limit (is ∙ e)) ∙ other)) in
    let at_most : count_of word ≤ limit = within unmarked in
    omega arith

-- a raise that wins
pub stands-raise : (word live live' in_drop in_drop' : ℕ) (mark : Bool) → is_marked_word word ≡ false
    → word < greatest_count → live' ≡ live + 1 → StandsFor word mark live in_drop
    → StandsFor (word + 1) mark live' in_drop'
stands-raise word live live' in_drop in_drop' mark unmarked room more s =
    let below : word < greatest_count = room in
    let is : word ≡ live = word-unmarked word live in_drop mark unmarked s in
    let high : word + 1 < mark_bit = omega arith in
    let count : (word + 1) % mark_bit ≡ live' = omega arith in
    let no_mark : mark ≡ false = sym s.same_mark ∙ unmarked in
    record {
      same_mark = lt-leb mark_bit (word + 1) high ∙ sym no_mark;
      counts_live = λ _. count;
      covers_drops = λ m. absurd (true≢false (sym m ∙ no_mark));
    }

-- a lower, which ends a drop in flight and its handle, and which meets a word that is not 0
pub stands-lower : (word live live' in_drop in_drop' : ℕ) (mark : Bool)
    → live' + 1 ≡ live → in_drop' + 1 ≡ in_drop
    → StandsFor word mark live in_drop → (1 ≤ word) × StandsFor (word - 1) mark live' in_drop'
stands-lower word live live' in_drop in_drop' true fewer dropped s =
    let high : mark_bit ≤ word = leb-true mark_bit word s.same_mark in
    let covers : in_drop ≤ count_of word = s.covers_drops refl in
    let above : mark_bit ≤ word - 1 = omega arith in
    let covered : in_drop' ≤ (word - 1) % mark_bit = omega arith in (
      omega arith,
      record {
        same_mark = le-leb mark_bit (word - 1) above;
        counts_live = λ m. absurd (true≢false m);
        covers_drops = λ _. covered;
      },
    )
stands-lower word live live' in_drop in_drop' false fewer dropped s =
    let low : word < mark_bit = leb-false mark_bit word s.same_mark in
    let is : word ≡ live = word-unmarked word live in_drop false s.same_mark s in
    let below : word - 1 < mark_bit = omega arith in
    let count : (word - 1) % mark_bit ≡ live' = omega arith in (
      omega arith,
      record {
        same_mark = lt-leb mark_bit (word - 1) below;
        counts_live = λ _. count;
        covers_drops = λ m. absurd (true≢false (sym m));
      },
    )

-- the word that a subtraction of one leaves, as an atomic step does it
pub word-lowered : (word : ℕ) → 1 ≤ word → word < 2 ^ 64
    → (word + (2 ^ 64 - 1)) % 2 ^ 64 ≡ word - 1
word-lowered word some fits =
    let less : (word + (2 ^ 64 - 1)) % 2 ^ 64 ≡ word - 1 = omega arith in
    less

-- The word that an or with the mark leaves. `word | bit` and `word & bit` add up to `word + bit`, and `word & bit` is
-- bit 63 of the word.
pub bit_or-mark_bit : (word : ℕ) → word < 2 ^ 64 → bit_or word mark_bit ≡ marked_word word
bit_or-mark_bit word fits = at (is_marked_word word) refl where
  sum : bit_or word mark_bit + bit_and word mark_bit ≡ word + mark_bit
  sum = or_add_and word mark_bit

  bit : bit_and word mark_bit ≡ (word / mark_bit % 2) * mark_bit
  bit = and_high word 1 63

  at : (b : Bool) → is_marked_word word ≡ b → bit_or word mark_bit ≡ (if b then word else word + mark_bit)
  at false unmarked =
      let low : word < mark_bit = leb-false mark_bit word unmarked in
      let total = sum in
      let part = bit in
      omega arith
  at true marked =
      let high : mark_bit ≤ word = leb-true mark_bit word marked in
      let total = sum in
      let part = bit in
      omega arith

pub ruleset marks = (bit_or-mark_bit)

-- a mark: if no more drops are in flight than handles live
pub stands-marked_word : (word live in_drop : ℕ) (mark : Bool)
    → StandsFor word mark live in_drop → in_drop ≤ live
    → StandsFor (marked_word word) true live in_drop
stands-marked_word word live in_drop true s few =
    let same : marked_word word ≡ word = ap (λ b. if b then word else word + mark_bit) s.same_mark in
    record {
      same_mark = ap is_marked_word same ∙ s.same_mark;
      counts_live = λ m. absurd (true≢false m);
      covers_drops = λ _. rw same (s.covers_drops refl);
    }
stands-marked_word word live in_drop false s few =
    let same : marked_word word ≡ word + mark_bit = ap (λ b. if b then word else word + mark_bit) s.same_mark in
    let low : word < mark_bit = leb-false mark_bit word s.same_mark in
    let high : mark_bit ≤ word + mark_bit = omega arith in
    let is : word ≡ live = word-unmarked word live in_drop false s.same_mark s in
    let stays : (word + mark_bit) % mark_bit ≡ word = omega arith in
    let covered : in_drop ≤ (word + mark_bit) % mark_bit = omega arith in
    record {
      same_mark = ap is_marked_word same ∙ le-leb mark_bit (word + mark_bit) high;
      counts_live = λ m. absurd (true≢false m);
      covers_drops = λ _. rw same covered;
    }

-- The three that follow are `stands-raise` and `stands-lower` for numbers and marks that are written out.
pub stands-raised : (word live in_drop : ℕ) → StandsFor word false live in_drop → live ≢ greatest_count
    → StandsFor (word + 1) false (live + 1) in_drop
stands-raised word live in_drop s room =
    let low : word < mark_bit = leb-false mark_bit word s.same_mark in
    let is : word ≡ live = word-unmarked word live in_drop false s.same_mark s in
    let other : live ≢ greatest_count = room in
    let below : word < greatest_count = omega arith in
    stands-raise word live (live + 1) in_drop in_drop false s.same_mark below refl s

pub stands-lowered : (word live in_drop : ℕ) (mark : Bool) → StandsFor word mark (live + 1) (in_drop + 1)
    → StandsFor (word - 1) mark live in_drop
stands-lowered word live in_drop mark s =
    (stands-lower word (live + 1) live (in_drop + 1) in_drop mark refl refl s).1

pub stands-positive : (word live in_drop : ℕ) (mark : Bool) → StandsFor word mark (live + 1) (in_drop + 1)
    → 1 ≤ word
stands-positive word live in_drop mark s =
    (stands-lower word (live + 1) live (in_drop + 1) in_drop mark refl refl s).0
