-- The names that the walks over the places of items cite.
pub mod Fields
pub mod Leaving
pub mod Made
pub mod Opened
pub mod Reads
pub mod Shared
pub use Rattle.handles.proofs.Walks.{◌≡◌, ℕ, ◌+◌, ◌-◌, ◌^◌, ◌<◌, Bool, true, false, List, [], ◌∷◌, ◌++◌, refl, sym}
pub use Rattle.handles.proofs.Walks.{ap, ◌∙◌, subst, lit<, arith, w64, a_type, named, Val, vint, vptr, vunit}
pub use Rattle.handles.proofs.Walks.{inst_fn, full_share, SProp, ent, sep, emp, id⊢, fat, Lft, Share, Fml, ftrue}
pub use Rattle.handles.proofs.Walks.{fsep, flft, fhide, sem, ‵, raw, ◌⊛◌, some, given, later, at_ret, ◌$◌, ◌∵◌}
pub use Rattle.handles.proofs.Walks.{ !, qed, by, move, keep, drop, split, split3, join, fsplit, fsplit3, fjoin}
pub use Rattle.handles.proofs.Walks.{fjoin3, pick, learn, use0, use1, use2, use3, await, rewrite, feq_i, flt_i}
pub use Rattle.handles.proofs.Walks.{flt_l, suffices, done, unit_lit, stop, fld, load, addr, lit, of_opd, no_more}
pub use Rattle.handles.proofs.Walks.{and_then, first, blocks, exec, returns, enter, lands_as, alloc_all, pass_all}
pub use Rattle.handles.proofs.Walks.{free_all, look_at, get, get_in, through, sets, sets_last, lands_last, is, env}
pub use Rattle.handles.proofs.Walks.{agg, sub, whole, look_in, tables, fact, fact_i, yes, no, RattleType, owns}
pub use Rattle.handles.proofs.Walks.{types_at, plain, Ptr, InBlock, block_ptr, ptr_val, block_of, offset_of}
pub use Rattle.handles.proofs.Walks.{at_block, nothing_more, peeks, heard, looks, shuts, Is, shows, cell_at, param}
pub use Rattle.handles.proofs.Walks.{layout, layouts, param_laws, RefOf, shr_vals, shr_Tells, Stays, stay_dropped}
pub use Rattle.handles.proofs.Walks.{walk_of, Goes-dropped, after, fm, at_type, walks, walks_at, known}
pub use Rattle.std.proofs.Common.{◌*◌, ◌≢◌, ◌≤◌}
pub use Rattle.std.specs.Mem.{type_size}
pub use Rattle.std.specs.Prelude.{Err, IfOk, Ok}
pub use Rattle.std.specs.Vec.Ownership.{FitsInBlock}
pub use Rattle.std_alloc.proofs.RawLayout.{as_raw, as_written}
pub use Rattle.std_alloc.proofs.RcSteps.{Good, first_Good}
pub use Rattle.std_alloc.proofs.ResultValues.{err_of, ok_of}
pub use Rattle.std_alloc.specs.Vec.Ownership.{owns_if}
pub use lib.ListN.{length}
pub use mir.Syntax.{ty_array}
pub use mir.Val.{vcons, vnil, vstruct, WT, has_ty, vbool}
pub use base.Fml.{froom, GName, Incl-trans}
pub use prog.Capped.{capped_fits}
pub use prog.Memory.{align, capped}
pub use prog.Wp.{Wp, after_seq, at_return}
pub use types.ByLocal.{get_tag}
pub use types.Kit.{Post as After, any_q, Sq, group, prop}
pub use types.Match.{in_variant, live, vrt}
pub use types.Part.{store_in}
pub use types.Run.{align_word, assigns, bin, size_lit, size_word, switches_on, assigns_last, branches, from, init}
pub use types.Run.{look, skips}
pub use denote.Array.{Array}
pub use denote.Builtin.{usize}
pub use denote.Memory.{part_at, hidden_shr, mem}
pub use denote.Plain.{uint_Tells, uint_vals}
pub use denote.RawPtr.{in_a_block}
pub use denote.Ref.{mut_Tells, mut_vals}
pub use denote.Slice.{slice_val}
pub use denote.Steps.{closes, opens, owned}
pub use denote.Struct.Struct.{Struct, Struct-Makes}
pub use denote.Triple.Call.{calls_at}
pub use denote.Triple.Carry.{spared}
pub use denote.Triple.Table.{run_framed}
pub use denote.Triple.Walked.{Goes-ref, stay_ref, Goes-spent_ref, ends_at}
pub use Rattle.core.proofs.alloc.Calls.{Answer-typed, Answered, Goes-blank, Takes, Takes-gives, Takes-goes, answers}
pub use Rattle.core.proofs.alloc.Calls.{at_takes, token}
pub use Rattle.core.proofs.alloc.Shapes.{arm_body, head}
pub use Rattle.core.proofs.ptr.Rows.{elτ, one_below, sz, times_below, el_in, snoc, spare}
pub use Rattle.core.proofs.slots.Leases.{block_align, block_size, block_ty, uncapped}
pub use Rattle.handles.proofs.Blocks.RawBoxes.{heap, Global, ◌⊑◌, ⊑_static}
pub use Rattle.handles.proofs.Places.Leaving.{LeavingRow, words-Good, leaving_val, leaving_words, leaving_made}
pub use Rattle.handles.proofs.Places.Leaving.{none_at_null, first_of, FitWords, first_and_others, first_out, none_left}
pub use Rattle.handles.proofs.Places.Leaving.{room_after, whole_room}
pub use Rattle.handles.proofs.Places.Fields.{PlacesRow, places_val}
pub use Rattle.handles.proofs.Places.Made.{has_bytes, places_made, without_items, capped_zero, no_bytes, no_memory}
pub use Rattle.handles.proofs.Places.Reads.{field_behind, field_in, pair}
pub use Rattle.handles.proofs.Places.Opened.{places_opens, Beside, items_back, items_out, places_shuts}
pub use Rattle.handles.specs.Inside.PlacesOwnership.{right_to_free, leaving_own}
pub use lib.Dec.{T as Holds, eqb}
pub use Rattle.handles.proofs.Places.Shared.{Lends-places, places_share-ShrLaws, words_open}
pub use denote.Struct.Lending.{in_block_says, of_Lends}
