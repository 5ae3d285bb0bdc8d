-- The next step of a clone and of a drop that have read the word. The step of a clone depends on the limit of its
-- block.
use Rattle.std.specs.Prelude.{ℕ, ◌+◌, nat_eq, if◌then◌else◌}
use Rattle.counting_word.specs.declared.ClonePlan.{ClonePlan}
use Rattle.counting_word.specs.declared.ClonePlan.TheVariants.{Static, Full, Raise}
use Rattle.counting_word.specs.declared.DropPlan.{DropPlan}
use Rattle.counting_word.specs.declared.DropPlan.TheVariants.{Static as StaticDrop, Lower}
use Rattle.counting_word.specs.CountingWord.{is_marked_word, count_of}

abbrev pub clone_plan : ℕ → ℕ → ClonePlan
clone_plan word limit =
    if is_marked_word word then Static
    else (if nat_eq (count_of word) limit then Full else Raise (word + 1))

abbrev pub drop_plan : ℕ → DropPlan
drop_plan word = if is_marked_word word then StaticDrop else Lower
