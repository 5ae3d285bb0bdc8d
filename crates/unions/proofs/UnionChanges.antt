-- What a command on unions may change: nothing, or the one slot that it writes.
use Rattle.std.proofs.Common.{Bool, None, refl, inl}
use Rattle.commands.proofs.Changes.{AllChange, AreChanges, number_stays, only_done, others_stay}
use Rattle.commands.proofs.Changes.{reads, reads_both, set, set_or, there}
use Rattle.commands.specs.TableLaws.{NumberOfSlotsStays, OnlyDoneChanges, OtherSlotsStay}
use Rattle.commands.specs.TableModel.{Slots}
use Rattle.unions.specs.Unions.{Union, First, Second}
use Rattle.unions.specs.declared.command.UnionCommand.TheVariants as union
use Rattle.unions.specs.UnionTableModel.{of_one_block, union_outcomes_of, union_written}

module _ {A B : Type 0} where
  one_block : (old : Slots (Union A B)) (u w : Union A B) → AreChanges old None (of_one_block old u w)
  one_block old (First a) (First x) = (inl refl, (inl refl, tt))
  one_block old (First a) (Second y) = (inl refl, tt)
  one_block old (Second b) (First x) = (inl refl, tt)
  one_block old (Second b) (Second y) = (inl refl, (inl refl, tt))

  module _ (first_eq : A → A → Bool) (second_eq : B → B → Bool) where
    union_changes : AllChange (union_outcomes_of first_eq second_eq) union_written
    union_changes (union.First i a) old = there old _ i _ (set_or old i (First a) _)
    union_changes (union.Second i b) old = there old _ i _ (set_or old i (Second b) _)
    union_changes (union.Clone i j) old = there old _ j _ (reads old _ i _ (λ u. set_or old j u _))
    union_changes (union.Drop i) old = reads old _ i _ (λ _. (set old i None, tt))
    union_changes (union.IsFirst i) old = reads old _ i _ (λ _. (inl refl, tt))
    union_changes (union.IsSecond i) old = reads old _ i _ (λ _. (inl refl, tt))
    union_changes (union.ReadFirst i a) old = reads old _ i _ (λ _. (inl refl, tt))
    union_changes (union.ReadSecond i b) old = reads old _ i _ (λ _. (inl refl, tt))
    union_changes (union.PtrEq i j) old = reads_both old _ i j _ (one_block old)
    union_changes (union.Same i j) old = reads_both old _ i j _ (λ _ _. (inl refl, tt))

    pub number_stays_union : NumberOfSlotsStays (union_outcomes_of first_eq second_eq)
    number_stays_union = number_stays _ _ union_changes

    pub others_stay_union : OtherSlotsStay (union_outcomes_of first_eq second_eq) union_written
    others_stay_union = others_stay _ _ union_changes

    pub only_done_union : OnlyDoneChanges (union_outcomes_of first_eq second_eq)
    only_done_union = only_done _ _ union_changes
