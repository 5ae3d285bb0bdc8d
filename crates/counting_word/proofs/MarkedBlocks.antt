-- No step on a marked word leaves its maker with the block.
use Rattle.std.proofs.Common.{◌≡◌, ℕ, Bool, true, false, nat_eq, if◌then◌else◌, subst}
use Rattle.counting_word.specs.CountingWord.{is_marked_word, is_one_handle}
use Rattle.counting_word.specs.Rights.{Right, nothing, a_handle, to_lower, whole_block, right_by_read, IsWholeBlock}
use Rattle.counting_word.specs.WordSteps.{reads, asks, raises_from, reads_for_drop, lowers, reads_for_unique, marks}
use Rattle.counting_word.specs.WordSteps.{NoMarkedBlockIsGiven}
use Rattle.counting_word.proofs.Words.{is_one_handle-marked}

neither : (b : Bool) (x y : Right) → (IsWholeBlock x → ⊥) → (IsWholeBlock y → ⊥)
    → IsWholeBlock (if b then x else y) → ⊥
neither true x y first second whole = first whole
neither false x y first second whole = second whole

no-read : (word : ℕ) → IsWholeBlock (right_by_read word) → ⊥
no-read word = neither (is_marked_word word) a_handle nothing (λ w. w) (λ w. w)

not-one : (word : ℕ) → is_marked_word word ≡ true → (x y : Right) → (IsWholeBlock y → ⊥)
    → IsWholeBlock (if is_one_handle word then x else y) → ⊥
not-one word marked x y second whole =
    second (subst (λ b. IsWholeBlock (if b then x else y)) (is_one_handle-marked word marked) whole)

pub no_marked_block_is_given : NoMarkedBlockIsGiven
no_marked_block_is_given reads word marked = no-read word
no_marked_block_is_given asks word marked = λ whole. whole
no_marked_block_is_given (raises_from seen) word marked =
    neither (nat_eq word seen) a_handle (right_by_read word) (λ w. w) (no-read word)
no_marked_block_is_given reads_for_drop word marked = neither (is_marked_word word) nothing to_lower (λ w. w) (λ w. w)
no_marked_block_is_given lowers word marked = not-one word marked (whole_block 0) nothing (λ w. w)
no_marked_block_is_given reads_for_unique word marked = not-one word marked (whole_block 1) a_handle (λ w. w)
no_marked_block_is_given marks word marked = λ whole. whole
