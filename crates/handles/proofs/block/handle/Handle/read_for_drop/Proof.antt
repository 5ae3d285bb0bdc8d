-- `read_for_drop` is the load by which a handle ends.
use Rattle.handles.proofs.Walks.{ℕ, [], ◌∷◌, refl, ap, via, Lft, Share, Fml, ftrue, flft, ‵, ◌⊛◌, later, ◌$◌, !, by}
use Rattle.handles.proofs.Walks.{keep, drop, split, fsplit, fsplit3, fpick, use1, use2, await, alloc_all, pass_all}
use Rattle.handles.proofs.Walks.{sets, is, fact, RattleType, Ptr, ptr_val, at_block, param, param_laws, fm, Right}
use Rattle.handles.proofs.Walks.{HeldRow, word_and_permit, one_word-Good, word_and_permit-Good, sem, by_value}
use Rattle.handles.proofs.Walks.{handle_worded, permit_at, so, also, asks_new, Incl-refl, right_by_drop_read}
use Rattle.handles.proofs.Walks.{counted_handle, Sharing, held_as, SharedBlock, block_at, and_logged, forgets}
use Rattle.handles.proofs.Walks.{handle_settles, fst∗, BlockId, made, drop_read-NoHandle, word_at, its_field}
use Rattle.handles.proofs.Walks.{asks_word, returns_found, sym, no_more, and_then, get, agg, one_word, returns_permit}
use Rattle.handles.proofs.Walks.{permit_kept, learns_permit}
use base.Fml.{fex}
use contract.BorrowLft.{◌⊑◌}
use Rattle.atomic_table.proofs.Calls.{loads}
use Rattle.counting_word.specs.WordSteps as step
use Rattle.handles.proofs.Steps.DropReads.{drop_reads, after_drop_read}
use Rattle.handles.specs.contracts.block.handle.Handle.read_for_drop.{clauses}
use Rattle.handles.specs.contracts.block.handle.Handle.read_for_drop.Key.{name as #self}
use Rattle.handles.proofs.block.handle.Handle.read_for_drop.Statement.{statement}
use Rattle.handles.proofs.block.handle.Handle.read_for_drop.Code as code

pub read_for_drop_spec : {M : Type 1} → statement M
read_for_drop_spec 𝓤 𝓛 𝓜 𝓡 wired T L =
    let R : RattleType = param 0 T in by_value (handle_worded R) 𝓛 𝓜 𝓡 (clauses T 𝓛 𝓜.mem 𝓡.returns)
    (λ κs a. κs.0 ⊑ T.lives) (λ κs a gh. fst∗ 𝓤 (fact 𝓤 _) (sem 𝓛 ftrue))
    T #self code.function (code.unfolded 𝓤 𝓛.H 𝓜 𝓡 wired (T, tt)) (λ κs qs a gh Post asked ends go.
    let p : Ptr = a.block in let x : (HeldRow R).Denot = a.held in let η : BlockId = a.id in let n : ℕ = a.number in
    let κ : Lft = κs.0 in let q : Share = qs.0 in fsplit ! $ fpick ! (λ inb. drop ! $
    use1 𝓛 (‵ (fex Sharing (held_as R p x η n))) (forgets R (param_laws 0 T L) 𝓛 p x η n a.sole a.log) $
    use2 𝓛 (later (‵ (counted_handle R p x η n) ⊛ ‵ (flft κ q))) (handle_settles R (param_laws 0 T L)
    𝓛 p x η n κ asked κ q (Incl-refl κ)) $
    alloc_all ! (λ l. pass_all ! refl (one_word-Good p, tt) $
    await ! tt $ split ! $ fpick ! (λ i. fsplit3 ! $
    -- [the stake; the rule; the sharing; the token]
    let s : SharedBlock = block_at R p x η n i in
    let aft : ℕ → Fml = and_logged s [] (made n step.reads_for_drop) (after_drop_read s) in
    sets ! (is ! (its_field ! refl refl refl) (ap ptr_val (at_block p inb))) refl (tt, tt) $
    asks_new ! (via 𝓤 _ (drop_reads 𝓛 s)
    (loads 𝓛 𝓜 𝓡 (code.calls-core::raw_atomic::load 𝓡.env wired) (word_at p) aft)) $
    asks_word l ! (fm 𝓛 𝓜 𝓡) aft refl refl (λ Δ last. last) (λ w fits. let r : Right = right_by_drop_read w in
    -- [that it is in the log, with the right; the rule; the sharing; the token]
    fpick ! (λ now. let ends_by = made n step.reads_for_drop in learns_permit R p x η n ! tt i n r [] now ends_by w
    (permit_kept 𝓛 R p x η n inb i [] ends_by w r now (drop_read-NoHandle w)) (λ adds. returns_found l ! refl
    (is ! (agg ! (and_then ! (get ! refl) (no_more !))) (ap one_word (sym (at_block p inb)))) (one_word-Good p)
    (word_and_permit-Good w fits p) $ returns_permit R p x η n ! w fits r now $
    keep ! (2 ∷ 0 ∷ []) $ by ! (ends (word_and_permit w p) (w, permit_at R p x r η n now)
    (also 𝓤 refl (also 𝓤 refl (also 𝓤 refl (also 𝓤 refl (so 𝓤 adds)))))))))))))
