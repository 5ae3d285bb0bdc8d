-- What the word of a block stands for, when its mark or its count changes.
use Rattle.handles.proofs.Steps.Shared.{◌≡◌, ℕ, ◌≤◌, Bool, true, false, sym, ◌∙◌, subst, le_trans, true≢false}
use Rattle.handles.proofs.Steps.Shared.{count_of, StandsFor, StandsWithin}

-- Without the mark the drops in flight are among the live handles, however many they are.
pub stands-unmarked : (word live in_drop other : ℕ)
    → StandsFor word false live in_drop → StandsFor word false live other
stands-unmarked word live in_drop other s = record {
  same_mark = s.same_mark;
  counts_live = s.counts_live;
  covers_drops = λ m. absurd (true≢false (sym m));
}

-- With the mark a word says nothing of its limit.
pub marked-stands : (limit word n : ℕ) → StandsFor word true n n → StandsWithin limit word true n
marked-stands limit word n s = (s, λ unmarked. absurd (true≢false (sym s.same_mark ∙ unmarked)))

-- Fewer parts are within the limit too.
pub fewer-stands : (limit word less n k : ℕ) (mark : Bool)
    → StandsWithin limit word mark n → k ≤ n → StandsFor less mark k k → StandsWithin limit less mark k
fewer-stands limit word less n k mark s fewer t = (
  t,
  λ unmarked.
      let none : mark ≡ false = sym t.same_mark ∙ unmarked in let few : count_of less ≡ k = t.counts_live none in
      let many : count_of word ≡ n = s.0.counts_live none in
      let at_most : count_of word ≤ limit = s.1 (s.0.same_mark ∙ none) in
      subst (λ z. z ≤ limit) (sym few) (le_trans fewer (subst (λ z. z ≤ limit) many at_most)),
)
