-- Worked histories, by the definitions, to read them by. No contract uses them.
use Rattle.std.proofs.Common.{ℕ, true, false, [], ◌∷◌, rules, arith}
use Rattle.shared_count.specs.History.{Born, Full, Overtaken, Ended, Last, Clone, End, Mark, Unique, Static, IsLegal}
use Rattle.shared_count.specs.Extends.{event}

-- the passes of a count that was opened with two
abbrev p : ℕ
p = 0

abbrev q : ℕ
q = 1

two_passes_see_each_other : IsLegal 2
    (event p (Unique false) ∷ event q (End Ended) ∷ event p (Unique true) ∷ event p (Clone Born)
    ∷ event p (Unique false) ∷ event p Mark ∷ event p (Static true) ∷ event p (End Ended)
    ∷ event p (End Ended) ∷ [])
two_passes_see_each_other = search rules

the_only_handle_ends_last : IsLegal 1 (event p (End Last) ∷ [])
the_only_handle_ends_last = search rules

a_marked_count_never_ends_last : IsLegal 2
    (event p Mark ∷ event q (Clone Born) ∷ event p (Static true) ∷ event q (End Ended) ∷ event q (End Ended)
    ∷ event p (End Ended) ∷ [])
a_marked_count_never_ends_last = search rules

nobody_calls_without_a_handle : IsLegal 1 (event q Mark ∷ []) → ⊥
nobody_calls_without_a_handle h = omega arith

the_last_of_two_is_told : IsLegal 2 (event p (End Ended) ∷ event q (End Ended) ∷ []) → ⊥
the_last_of_two_is_told h = cc

no_clone_is_overtaken_in_a_history : IsLegal 1 (event p (Clone Overtaken) ∷ []) → ⊥
no_clone_is_overtaken_in_a_history h = cc

a_clone_below_the_limit_is_not_full : IsLegal 1 (event p (Clone Full) ∷ []) → ⊥
a_clone_below_the_limit_is_not_full h = cc
