-- A handle says the same to every thread, if its value may go to any thread and be seen by any.
use Rattle.std.proofs.Common.{ℕ, ◌+◌, Bool, true, false, [], ◌∷◌, List, map}
use base.Fml.{Fml, Lft, Share, fsep, finv}
use base.Shift.{Keyless}
use base.Fraction.{full_share}
use base.Growing.{latest, at_least}
use Rattle.counting_word.specs.Logs.{Entry}
use Rattle.counting_word.specs.Tallies.{is_living, is_dropping, tally_of}
use Rattle.handles.proofs.Blocks.Rows.{row-Keyless, pass-Keyless}
use denote.RattleType.{RattleType}
use denote.RawPtr.{Ptr, block_ptr, null_ptr, block_of, count_of as offset_of, ◌+ₚ◌}
use denote.Builtin.{RawPtr}
use denote.Struct.Struct.{exits_of}
use denote.Struct.Owning.{shape, fields, to}
use denote.Param.Send.{IsSend, IsSync, Common, AllSend, owning_send, struct_send, struct_sync, sendable}
use denote.Param.Send.{whole-keyless}
use Rattle.std_heap.specs.contracts.Global.{the_row as heap_row}
use Rattle.std_alloc.proofs.SendSync.{lies, seen, quiet}
use Rattle.std.proofs.Crossing as crossing
use Rattle.handles.proofs.block.Held.TheSendSync.{the_send as held_send, the_sync as held_sync}
use Rattle.handles.specs.Inside.Blocks.{HeldRow, Names, BlockId, Stage, living, over, beside_word, entitled, stage}
use Rattle.handles.specs.Inside.Blocks.{logs, kept_log, reached, noted_as, stamp, sole_handle, left_at, block_type}
use Rattle.handles.specs.Inside.Blocks.{held_offset, heap_offset, held_and_block, shown, Sharing, not_yet, begun}
use Rattle.handles.specs.Inside.Blocks.{held_as, owned_as, shared_as, block_rule}
use Rattle.handles.specs.contracts.arc.full.Full as full_type
use Rattle.handles.specs.contracts.block.handle.Handle as handle_type
use Rattle.handles.specs.contracts.block.marked.Marked as marked_type

pointers : IsSend RawPtr
pointers = search sendable

pointers_shared : IsSync RawPtr
pointers_shared = search sendable

entitled-Keyless : (i : Names) (e : Share) (y : Bool) → Keyless (entitled i e y)
entitled-Keyless i e true = λ _. tt
entitled-Keyless i e false = tt

latest-Keyless : (η : ℕ) (log : List Entry) → Keyless (latest logs full_share η (kept_log log))
unfolding latest
latest-Keyless η log = tt

reached-Keyless : (η : BlockId) (log : List Entry) → Keyless (reached η log)
unfolding at_least
reached-Keyless η log = tt

noted-Keyless : (limit : ℕ) (η : BlockId) (w : ℕ) (log : List Entry) → Keyless (noted_as limit η w log)
noted-Keyless limit η w log = (
  latest-Keyless η.log log,
  (
    (λ _. tt),
    (
      row-Keyless η.living (map is_living (tally_of log).handles),
      row-Keyless η.dropping (map is_dropping (tally_of log).handles),
    ),
  ),
)

stage-Keyless : (content kept : Fml) → Keyless content → Keyless kept → (limit b o : ℕ) (η : BlockId)
    (i : Names) (s : Stage)
    → Keyless (stage content kept limit b o η i s)
stage-Keyless content kept c k limit b o η i (living mark w n) = (
  (tt, noted-Keyless limit η w),
  ((λ _. tt), at mark),
) where
  at : (mark : Bool) → Keyless (beside_word content kept limit b o η i mark n)
  at false = ((λ r c. tt), ((c, k), tt))
  at true = ((λ r c. tt), (((λ e. tt), k), tt))
stage-Keyless content kept c k limit b o η i over = (tt, tt)

module _ (R : RattleType) (s : IsSend R) (y : IsSync R) where
  left-Keyless : (p : Ptr) → Keyless (left_at R p)
  left-Keyless (block_ptr b o) = tt
  left-Keyless null_ptr = tt

  module _ (p : Ptr) (x : (HeldRow R).Denot) where
    content-Keyless : Keyless (held_and_block R p x)
    content-Keyless = (
      lies (HeldRow R) (held_send R s) (p +ₚ held_offset R) x,
      λ h. (
        lies heap_row crossing.send (p +ₚ heap_offset R) h,
        (crossing.frees.frees h (block_type R) p, left-Keyless p),
      ),
    )

    shown-Common : Common (shown R p x)
    shown-Common = seen (HeldRow R) (held_sync R y) (p +ₚ held_offset R) x

    module _ (η : BlockId) where
      -- the rule of a block, and what is shown, under these names of the sharing
      told-Keyless : (i : Names) → Keyless (fsep (finv (block_rule R p x η i)) (shown R p x (i.shared ∷ [])))
      told-Keyless i = (
        stage-Keyless (held_and_block R p x) (stamp p) content-Keyless (λ n. tt) x.limit.count (block_of p)
            (offset_of p + 0) η i,
        shown-Common (i.shared ∷ []),
      )

      module _ (n : ℕ) where
        sole-Keyless : (log : List Entry) → Keyless (sole_handle R p x η n log)
        sole-Keyless log = (
          ((tt, noted-Keyless x.limit.count η 1 log), (content-Keyless, λ n. tt)),
          pass-Keyless η.living n full_share,
        )

        handle-Keyless : (z : Sharing) → Keyless (held_as R p x η n z)
        handle-Keyless not_yet = sole-Keyless
        handle-Keyless begun = λ i. (
          ((λ e. (entitled-Keyless i e, tt)), pass-Keyless η.living n full_share),
          told-Keyless i,
        )

        owned-Keyless : (sole : Bool) (log : List Entry) → Keyless (owned_as R p x η n sole log)
        owned-Keyless true log = sole-Keyless log
        owned-Keyless false log = handle-Keyless

        shared-Keyless : (sole : Bool) (κ : Lft) → Keyless (shared_as R p x η n sole κ)
        shared-Keyless true κ = shown-Common κ
        shared-Keyless false κ = λ i. ((λ q. tt), ((λ q. (tt, pass-Keyless η.living n q)), told-Keyless i))

  fields-Send : AllSend (fields (handle_type.the_type R))
  fields-Send = (pointers, tt)

-- a handle may go to a thread
pub handle-Send : (R : RattleType) → IsSend R → IsSync R → IsSend (handle_type.the_row R)
handle-Send R s y = let O = handle_type.the_type R in
    owning_send O (fields-Send R s y) (λ d. ((λ _. tt), owned-Keyless R s y d.block d.held d.id d.number d.sole d.log))
    (λ k. quiet (to O) (exits_of k (fields O)) ((struct_send (shape O) (fields-Send R s y)).leaving k))

-- and be seen by one
pub handle-Sync : (R : RattleType) → IsSend R → IsSync R → IsSync (handle_type.the_row R)
handle-Sync R s y = let O = handle_type.the_type R in record {
  shared = λ d b o κ. (
    (struct_sync (shape O) (pointers_shared, tt)).shared (to O d) b o κ,
    ((λ _. tt), shared-Keyless R s y d.block d.held d.id d.number d.sole κ),
  );
}

-- a marked block may be seen by any thread
pub marked-Sync : (R : RattleType) → IsSend R → IsSync R → IsSync (marked_type.the_row R)
marked-Sync R s y = record {
  shared = λ d b o κ. let p : Ptr = block_ptr b o in (
    (reached-Keyless d.known_by.id d.known_by.log, λ _. tt),
    λ t. (
      tt,
      (
        (λ q. tt),
        ((λ q. (tt, pass-Keyless d.known_by.id.living t.number q)), told-Keyless R s y p d.held d.known_by.id t.names),
      ),
    ),
  );
}

-- a log says the same to every thread
full-Keyless : (f : full_type.the_type.D) → Keyless (full_type.the_type.heap f)
full-Keyless f = (reached-Keyless f.id f.log, λ _. tt)

-- a `Full` may go to a thread
pub full-Send : IsSend full_type.the_row
full-Send = let O = full_type.the_type in
    owning_send O tt full-Keyless (λ k. quiet (to O) (exits_of k (fields O)) ((struct_send (shape O) tt).leaving k))

-- and be seen by one
pub full-Sync : IsSync full_type.the_row
full-Sync = let O = full_type.the_type in record {
  shared = λ d b o κ q. whole-keyless _ _ (λ f vs. ((struct_send (shape O) tt).owned (to O f) vs, full-Keyless f)) q d
      b o;
}
