-- A log with a mark in it: which entries show one, and that it stays.
use mathlib.Core.List.{IsPrefix}
use Rattle.std.proofs.Common.{◌≡◌, ℕ, true, List, [], ◌∷◌, ◌++◌, sym, ◌∙◌, ap}
use Rattle.std.proofs.Common.{subst}
use Rattle.counting_word.specs.CountingWord.{IsLimit, is_marked_word}
use Rattle.counting_word.specs.WordSteps.{asks, marks}
use Rattle.counting_word.specs.Logs.{Entry, made}
use Rattle.counting_word.specs.Logs.{left_by}
use Rattle.counting_word.specs.Tallies.{Tally, tally_of}
use Rattle.counting_word.specs.Tallies.{first, Adds}
use Rattle.counting_word.proofs.Kept.{tally-append, mark-kept}
use Rattle.counting_word.proofs.Tallies.{runs_are_counted}
use Rattle.counting_word.proofs.WordLogs.{left_from-more}
use Rattle.handles.specs.Inside.Marked.{HasMark}

-- a mark stays in a log that goes on
pub has_mark-prefix : (old log : List Entry) → HasMark old → IsPrefix old log → HasMark log
has_mark-prefix old log has begun = subst HasMark begun.1
    (ap (λ (q : Tally). q.mark) (tally-append first old begun.0) ∙ mark-kept (tally_of old) begun.0 has)

-- a mark shows itself
pub marks_shown : (limit n found : ℕ) (log : List Entry) → Adds limit [] (made n marks) found log → HasMark log
marks_shown limit n found log a = subst HasMark (sym a.ends) (ap (λ (q : Tally). q.mark)
    (tally-append first ([] ++ a.others) (made n marks ∷ [])))

-- a question shows a mark by its answer
pub asks_shown : (limit : ℕ) → IsLimit limit → (n found : ℕ) (log : List Entry)
    → Adds limit [] (made n asks) found log
    → is_marked_word found ≡ true → HasMark log
asks_shown limit in_range n found log a is =
    let same : left_by log ≡ found = ap left_by a.ends ∙ left_from-more 1 ([] ++ a.others) (made n asks)
    ∙ a.found_word in
    sym (runs_are_counted limit log in_range a.runs).0.same_mark ∙ ap is_marked_word same ∙ is
