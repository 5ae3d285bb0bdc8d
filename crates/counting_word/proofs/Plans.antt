-- What a plan says of the word that it was made for.
use Rattle.std.proofs.Common.{◌≡◌, ℕ, ◌+◌, Bool, true, false, if◌then◌else◌, sym, refl, subst, nat_eq}
use Rattle.counting_word.specs.CountingWord.{is_marked_word, count_of}
use Rattle.counting_word.specs.Plans.{clone_plan, drop_plan}
use Rattle.counting_word.specs.declared.ClonePlan.{ClonePlan}
use Rattle.counting_word.specs.declared.ClonePlan.TheVariants.{Static, Full, Raise}
use Rattle.counting_word.specs.declared.DropPlan.{DropPlan}
use Rattle.counting_word.specs.declared.DropPlan.TheVariants.{Static as StaticDrop, Lower}

abbrev pub ClonePlanSays : ℕ → ℕ → ClonePlan → Type 0
ClonePlanSays word limit Static = is_marked_word word ≡ true
ClonePlanSays word limit Full = (is_marked_word word ≡ false) × (nat_eq (count_of word) limit ≡ true)
ClonePlanSays word limit (Raise n) =
    (is_marked_word word ≡ false) × (nat_eq (count_of word) limit ≡ false) × (n ≡ word + 1)

pub clone_plan-says : (word limit : ℕ) (plan : ClonePlan) → plan ≡ clone_plan word limit
    → ClonePlanSays word limit plan
clone_plan-says word limit plan made = subst (ClonePlanSays word limit) (sym made) says where
  at : (marked full : Bool) → is_marked_word word ≡ marked → nat_eq (count_of word) limit ≡ full
      → ClonePlanSays word limit (if marked then Static else (if full then Full else Raise (word + 1)))
  at true full marked count = marked
  at false true unmarked count = (unmarked, count)
  at false false unmarked count = (unmarked, count, refl)

  says : ClonePlanSays word limit (clone_plan word limit)
  says = at (is_marked_word word) (nat_eq (count_of word) limit) refl refl

abbrev pub DropPlanSays : ℕ → DropPlan → Type 0
DropPlanSays word StaticDrop = is_marked_word word ≡ true
DropPlanSays word Lower = is_marked_word word ≡ false

pub drop_plan-says : (word : ℕ) (plan : DropPlan) → plan ≡ drop_plan word → DropPlanSays word plan
drop_plan-says word plan made = subst (DropPlanSays word) (sym made) (at (is_marked_word word) refl) where
  at : (marked : Bool) → is_marked_word word ≡ marked
      → DropPlanSays word (if marked then StaticDrop else Lower)
  at true marked = marked
  at false unmarked = unmarked
