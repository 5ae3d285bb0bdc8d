-- The names that the walks over a block's raw pointer cite.
pub mod AsksWord
pub mod AtType
pub mod BorrowedHandle
pub mod Fields
pub mod Granted
pub mod Logged
pub mod OneParam
pub mod Statements
pub use Rattle.std.proofs.Common.{◌≡◌, ℕ, ◌+◌, ◌-◌, ◌%◌, ◌^◌, ◌<◌, Bool, true, false, List, [], ◌∷◌, ◌++◌, refl, sym}
pub use Rattle.std.proofs.Common.{ap, ◌∙◌, subst, lit<, arith, w64}
pub use mir.Syntax.{a_type, named}
pub use mir.Val.{Val, vint, vptr, vunit, Fits, of_list, vnil, vstruct}
pub use mir.MapTy.{inst_fn}
pub use base.Fraction.{full_share}
pub use base.Logic.{SProp, ent, sep, emp, id⊢, via, fst∗, never, never_e, snd∗, wand}
pub use base.Fml.{fat, Lft, Share, Fml, ftrue, fsep, flft, fhide, GName, Incl-refl, Incl-trans, fbor}
pub use base.Share
pub use types.Logic.{sem}
pub use types.Kit.{‵, raw, ◌⊛◌, some, given, later, at_ret, ◌$◌, ◌∵◌, !, qed, by, move, keep, drop, split, split3}
pub use types.Kit.{join, fsplit, fsplit3, fjoin, fjoin3, fpick, fpack, pick, learn, use0, use1, use2, use3, await}
pub use types.Kit.{rewrite, feq_i, feq_l, flt_i, flt_l, suffices, done, some as exists, group, now, updating}
pub use types.Run.{unit_lit, stop, fld, load, addr, lit, of_opd, no_more, and_then, first, blocks, exec, Calls-last}
pub use types.Run.{returns, enter, assigns_last, init, look}
pub use types.ByLocal.{lands_as, alloc_all, pass_all, free_all, look_at, get, get_in, through, sets, sets_last}
pub use types.ByLocal.{lands_last, is, env}
pub use types.Part.{agg, sub, whole, look_in}
pub use contract.Running.{tables}
pub use contract.Monad.{fact, fact_i}
pub use denote.Exit.{yes, no}
pub use denote.RattleType.{RattleType, owns}
pub use denote.Signature.{types_at, plain}
pub use denote.RawPtr.{Ptr, InBlock, block_ptr, ptr_val, block_of, count_of as offset_of, at_block, in_a_block}
pub use denote.RawPtr.{null_ptr, ◌+ₚ◌}
pub use denote.Steps.{nothing as nothing_more, only, peeks, heard, looks, shuts, closes, opens}
pub use denote.Laws.{Is, shows}
pub use denote.Memory.{cell_at, hidden_shr, part_at}
pub use denote.Param.{param, layout, layouts, bounded}
pub use denote.Param.Laws.{param_laws, Laws}
pub use denote.Builtin.{RefOf, u64}
pub use denote.Ref.{shr_vals, shr_Tells, MutBor, MutRef, mut_Tells, mut_vals}
pub use denote.Triple.Walked.{Stays, stay_dropped, walk_of, Goes-dropped, Goes-ref, Goes-spent_ref, stay_ref}
pub use Rattle.core.proofs.alloc.Shapes.{after}
pub use Rattle.atomic_table.proofs.Walks.{proved, leaves}
pub use Rattle.handles.proofs.Walks.AtType.{at_type, walks, walks_at, dropped_at}
pub use Rattle.atomic_table.proofs.Calls.{fm, found, finds}
pub use Rattle.counting_word.specs.Rights.{Right, IsWholeBlock, nothing, a_handle, right_by_drop_read, right_by_lower}
pub use Rattle.counting_word.specs.Rights.{right_by_raise, right_by_read, to_lower, whole_block}
pub use Rattle.handles.specs.Inside.Blocks.{HeldRow, BlockId, permit_owns, Names, bare_block, counted_handle}
pub use Rattle.handles.specs.Inside.Blocks.{handle_owns, handle_shares, heap_offset, held_offset, lent_share, marked}
pub use Rattle.handles.specs.Inside.Blocks.{owned_as, placed, shared_as, shown, stamp_offset, unshared_block}
pub use Rattle.handles.specs.Inside.Blocks.{sole_handle, Sharing, held_as}
pub use Rattle.handles.proofs.Walks.Fields.{one_word, word_and_permit, one_word-Good, words_are, HandleRow, PermitRow}
pub use Rattle.handles.proofs.Walks.Fields.{HandleWords, known, is_number, returns_permit, word_and_permit-Good}
pub use Rattle.handles.proofs.Walks.Fields.{handle_at, permit_at, big_lit}
pub use Rattle.handles.proofs.Walks.Granted.{lower-NoHandle, permit_kept, permit_shown, sole_permits, sole_shown}
pub use Rattle.handles.proofs.Walks.Granted.{whole_block_of, read-NoBlock, raise-NoBlock, drop_read-NoHandle}
pub use Rattle.handles.proofs.Walks.BorrowedHandle.{opens_word, opens_handle, learns_permit, closes_borrow, asks_with}
pub use Rattle.handles.proofs.Walks.BorrowedHandle.{under_rule, asks_new, logs, reports, parted, word_at}
pub use Rattle.handles.proofs.Walks.OneParam.{by_ref, by_ref_and, by_value, handle_worded, permit_worded, is_handle}
pub use Rattle.handles.proofs.Walks.OneParam.{so, also, both, by_shared, turns}
pub use Rattle.handles.proofs.Walks.Statements.{its_field, field_behind}
pub use Rattle.handles.proofs.Walks.AsksWord.{asks_word, returns_found}
pub use Rattle.counting_word.specs.Tallies.{Adds, newest}
pub use Rattle.handles.proofs.Steps.Born.{static_entry, BornSome, Known, born, knows}
pub use Rattle.handles.proofs.Blocks.Boxes.{Boxed, box_opens, box_shuts, heap_twice}
pub use Rattle.handles.proofs.Blocks.RawBoxes.{Global, Goes-blank, Lasts, RawBoxRow, box_in, box_out, dcons, dnil}
pub use Rattle.handles.proofs.Blocks.RawBoxes.{ghosts, glues, handle_tells, heap, heap_arg, heap_arg-laws, heap_row}
pub use Rattle.handles.proofs.Blocks.RawBoxes.{lasts, named_in, pair_val, passed, raw_box-Good, raw_box_opens}
pub use Rattle.handles.proofs.Blocks.RawBoxes.{raw_box_shuts, triple_of, ⊑_static}
pub use Rattle.core.proofs.cell.Inside.{Good}
pub use Rattle.handles.specs.Inside.Marked.{HasMark, marked_shares}
pub use denote.Struct.Lending.{Lends-both, Lends-said, lent_at, of_Lends}
pub use Rattle.handles.proofs.Owners.{Lends-owned, forgets, handle_settles, handle_shares-ShrLaws, shown_by}
pub use Rattle.handles.proofs.Walks.Logged.{LoggedRow, NoBytes, no_bytes-made, no_bytes_told, returns_logged}
pub use Rattle.handles.proofs.Walks.Logged.{word_and_logged, word_and_logged-Good}
pub use Rattle.handles.proofs.Steps.Shared.{SharedBlock, and_logged, block_at}
pub use Rattle.counting_word.specs.Logs.{Entry, made}
pub use Rattle.handles.proofs.Steps.Reads.{a_share, after_read, asks, reads}
pub use Rattle.handles.proofs.Owners.Marked.{becomes_lasting, marked_shares-ShrLaws, stays_shown, Lasts_new, new_lasts}
pub use Rattle.handles.proofs.Owners.Marked.{staying}
pub use denote.Triple.Call.{calls_at, calls_at_last}
pub use denote.Opens.{hide, unhide}
pub use Rattle.counting_word.specs.CountingWord.{is_one_handle, mark_bit, marked_word}
pub use contract.BorrowLft.{meet_⊑_left}
pub use Rattle.handles.proofs.Steps.Stamps.{stamps}
pub use denote.Plain.{uint_Tells, uint_vals}
