-- The names of other libraries and of the specs that the proofs cite.
pub use Rattle.std.proofs.Common.{◌≡◌, ◌≢◌, ℕ, ◌-◌, ◌%◌, ◌≤◌, ◌<◌, ◌++◌, ◌∷◌, [], Bool, true, false, List, length}
pub use Rattle.std.proofs.Common.{if◌then◌else◌, get_or, set, refl, sym, ◌∙◌, ap, ap₂, subst, length-set, arith}
pub use Rattle.std.proofs.Common.{IsTrue, nat_eq, ne_eqb, eq-eqb, eqb-true, leb-true, ◌+◌, not, ◌&&◌, ◌||◌, zero, suc}
pub use Rattle.std.proofs.Common.{nat_lt, ltb-true, length-append, inl, inr, get_or-set_other, get_or-set_same}
pub use Rattle.std.proofs.Common.{true≢false, take, replicate, ◌⊎◌, ⊎_elim, append-nil, lt-ltb, lt_irrefl}
pub use Rattle.std.proofs.Common.{count_by, append_assoc, Ordering, Less, Equal, Greater, take_all, le_trans, le_refl}
pub use Rattle.std.proofs.Common.{Contains, ◌*◌, mul-add, add-one, rules, vec_len, vec_capacity}
pub use Rattle.std.proofs.Math.Bool.{and-true}
pub use Rattle.std.proofs.Math.ListN.{get_or-eq_default}
pub use Rattle.std.proofs.Math.Seq.{get_or-append_seam}
pub use Rattle.std.proofs.lemmas.Bool.{and_parts, or_parts, not-true, cases_lt, eqb-false, and_from, or_right}
pub use Rattle.std.proofs.lemmas.Bool.{cond_both, or_from, or_left, false_from_ne_true, and_right, or_cases}
pub use Rattle.std.proofs.lemmas.Bool.{true_from_ne_false}
pub use Rattle.std.proofs.lemmas.Grind.{common_steps}
pub use Rattle.std.proofs.lemmas.List.{get_or_append_left, get_or_default, take_more, get_or-replicate}
pub use Rattle.std.proofs.lemmas.List.{length-replicate}
pub use Rattle.std.proofs.lemmas.List.Filters.{length-filter_both}
pub use Rattle.std.proofs.lemmas.List.Folds.{list_any-append}
pub use Rattle.std.proofs.lemmas.List.Sums.{sum_by-cons, sum_by_push, sum_by_more, length-filter, count_by-le-length}
pub use Rattle.std.proofs.lemmas.Map.Views.{any-filter_same}
pub use Rattle.std.specs.BTreeSet.{insert_key}
pub use Rattle.std.specs.List.{list_any}
pub use Rattle.std.specs.Ordering.{nat_cmp, match_ordering}
pub use Rattle.std.specs.Set.{remove_key}
pub use mathlib.Core.Path.{fun_ext}
pub use Rattle.counting_word.proofs.Standings.{born}
pub use Rattle.counting_word.proofs.Tallies.{run-more}
pub use Rattle.counting_word.proofs.Kept.{tally-append}
pub use Rattle.counting_word.proofs.Words.{word-unmarked, exactly-unmarked, is_one_handle-exactly, stands-live}
pub use Rattle.counting_word.proofs.Words.{stands-in_drop, stands-raise, stands-lower, stands-marked_word, stands-new}
pub use Rattle.counting_word.proofs.WordLogs.{lowered-less}
pub use Rattle.counting_word.specs.CountingWord.{is_one_handle, count_of, mark_bit, is_marked_word}
pub use Rattle.counting_word.specs.CountingWord.{StandsFor, IsLimit, IsWithin, greatest_count}
pub use Rattle.counting_word.specs.Plans.{clone_plan, drop_plan}
pub use Rattle.counting_word.specs.Rights.{a_handle, nothing, to_lower, whole_block}
pub use Rattle.counting_word.specs.Logs.{EntryKind, atomic, static_handle, static_birth, Entry, made}
pub use Rattle.counting_word.specs.Tallies.{Standing, lives, dropping, ended as has_ended, is_counted, Tally, first}
pub use Rattle.counting_word.specs.Tallies.{standing_of, Lives, has_exactly, one_more, goes_to, after_read, after_step}
pub use Rattle.counting_word.specs.Tallies.{after_kind, tally_after, tally_from, tally_of, tally_right, MayDo}
pub use Rattle.counting_word.specs.Tallies.{IsRunFrom, IsRun}
pub use Rattle.counting_word.specs.WordSteps.{lowered, reads_for_drop, lowers, reads, asks, raises_from}
pub use Rattle.counting_word.specs.WordSteps.{reads_for_unique, marks, WordStep}
pub use Rattle.counting_word.specs.declared.ClonePlan.TheVariants.{Static as StaticClone, Full as FullClone}
pub use Rattle.counting_word.specs.declared.ClonePlan.TheVariants.{Raise as RaiseClone}
pub use Rattle.counting_word.specs.declared.DropPlan.TheVariants.{Static as StaticDrop, Lower as LowerDrop}
pub use Rattle.counting_core.specs.ByWord.{IsPermitted, cloned, dropped, by_word, value_after, births_after}
pub use Rattle.counting_core.specs.ByWord.{TakesEffect, FollowsWord, answered}
pub use Rattle.counting_core.specs.HandleSteps.{right_of, AnswersAreByTheWord, StepsAreThoseOfHandles}
pub use Rattle.counting_core.specs.Laws.{live_handles, has_mark, is_clone_read, is_end, is_given_up, some_answer}
pub use Rattle.counting_core.specs.Laws.{is_marked_answer, EachStepHasOneAnswer, BarredExactlyIfNotPermitted}
pub use Rattle.counting_core.specs.Laws.{FullExactlyAtLimit, BornStraightAfterRead, SoleHandleIsTheOnlyOne}
pub use Rattle.counting_core.specs.Laws.{SoleDropGivesUp, GivenUpOnce, MarkedBlockKeepsItsValue}
pub use Rattle.counting_core.specs.Legal.{state, takes_memory, model, expected, raise_settles, IsAnswer, IsLegal, Move}
pub use Rattle.counting_core.specs.Legal.{Visible, Internal, move, outcome, model_after}
pub use Rattle.counting_core.specs.LostRaises.{is_lost_raise, is_change, how_many}
pub use Rattle.counting_core.specs.Machines.{core_of}
pub use Rattle.counting_core.specs.Permitted.{permitted, may_take, permitted_by, has_alone, may_use, is_writing, holds}
pub use Rattle.counting_core.specs.Permitted.{is_lent_to, has_sole, is_shared, is_sole, owner_of}
pub use Rattle.counting_core.specs.ReferenceModel.{Model, is_full, is_only, Clones, Ends, without, opened}
pub use Rattle.counting_core.specs.Represents.{CoreState, handle, activity, state_of, Represents, IsReached}
pub use Rattle.counting_core.specs.Represents.{is_dropping, drops_in_flight, Continues, ContinuesAll, number_below}
pub use Rattle.counting_core.specs.Runs.{Report, reports_of, spelled_step, spelled_from, spelled, Runs, IsReportedBy}
pub use Rattle.counting_core.specs.State.{HandleState, lent_to, returned_by, ended, State, goes_on_to, newborn}
pub use Rattle.counting_core.specs.State.{handle_in, seen_in, unborn, put}
pub use Rattle.counting_core.specs.Trace.{Trace, after, limit_of, Then, Open, then_all}
pub use Rattle.counting_core.specs.TraceLogs.{log_of}
pub use Rattle.counting_core.specs.declared.activity.Activity.{Activity}
pub use Rattle.counting_core.specs.declared.activity.Activity.TheVariants.{Idle, Cloning, Dropping}
pub use Rattle.counting_core.specs.declared.handle_entry.Access.{Access}
pub use Rattle.counting_core.specs.declared.handle_entry.Access.TheVariants.{Shared as SharedAccess, Written}
pub use Rattle.counting_core.specs.declared.handle_entry.Access.TheVariants.{Sole as SoleAccess}
pub use Rattle.counting_core.specs.declared.step.Answer.{Answer}
pub use Rattle.counting_core.specs.declared.step.Answer.TheVariants.{Born, Full, Pending, Ended, GivenUp, Alone, Sole}
pub use Rattle.counting_core.specs.declared.step.Answer.TheVariants.{Shared, Done, Marked, Memory, Quit as Quitted, Is}
pub use Rattle.counting_core.specs.declared.step.Answer.TheVariants.{Value, Barred}
pub use Rattle.counting_core.specs.declared.step.Step.{Step}
pub use Rattle.counting_core.specs.declared.step.Step.TheVariants.{Clone, Raise, Quit, Drop, Lower, Mark, GetMut}
pub use Rattle.counting_core.specs.declared.step.Step.TheVariants.{Write, EndWrite, IntoUnique, Share, Lend, Return}
pub use Rattle.counting_core.specs.declared.step.Step.TheVariants.{Give, Unique, Static, Load}
