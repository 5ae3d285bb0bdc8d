-- `marked_by` knows the block to be marked by the log of a step, and gives a handle away for good. It makes no
-- step itself.
use Rattle.handles.proofs.Walks.{snd∗, id⊢, via, so, both, field_behind, ◌≡◌, ℕ, false, List, [], ◌∷◌, refl, Val, vptr}
use Rattle.handles.proofs.Walks.{ftrue, later, await, ‵, ◌⊛◌, ◌$◌, !, by, move, keep, drop, split, join, fsplit, fjoin}
use Rattle.handles.proofs.Walks.{fjoin3, fpick, rewrite, use1, feq_i, stop, addr, of_opd, first, blocks, returns}
use Rattle.handles.proofs.Walks.{alloc_all, pass_all, free_all, look_at, get, through, sets, sets_last, fact, yes}
use Rattle.handles.proofs.Walks.{RattleType, plain, Ptr, block_ptr, block_of, offset_of, at_block, nothing_more, shuts}
use Rattle.handles.proofs.Walks.{param, param_laws, Goes-dropped, HeldRow, one_word, HandleRow, HandleWords}
use Rattle.handles.proofs.Walks.{opens_handle, closes_borrow, vstruct, vnil, hide, Entry, BlockId, marked, HasMark}
use Rattle.handles.proofs.Walks.{marked_shares, becomes_lasting, staying, fpack, LoggedRow, no_bytes_told, SharedBlock}
use Rattle.handles.proofs.Walks.{block_at, BornSome, born, Known, knows, newest, under_rule, by_ref_and}
use types.Growing.{at_least_dup}
use Rattle.handles.specs.Inside.Blocks.{kept_log, logs, reached}
use Rattle.handles.specs.contracts.block.handle.Handle.marked_by.{clauses}
use Rattle.handles.specs.contracts.block.handle.Handle.marked_by.Key.{name as #self}
use Rattle.handles.proofs.block.handle.Handle.marked_by.Statement.{statement}
use Rattle.handles.proofs.block.handle.Handle.marked_by.Code as code

pub marked_by_spec : {M : Type 1} → statement M
marked_by_spec 𝓤 𝓛 𝓜 𝓡 wired T L =
    let R : RattleType = param 0 T in
    by_ref_and (HandleRow R) tt {m = 2} (plain (λ _. LoggedRow) ∷ []) (yes, tt) 𝓛 𝓜 𝓡 (clauses T 𝓛 𝓜.mem 𝓡.returns)
    (λ κs a bs. (a.now.sole ≡ false) × ((bs.0.id ≡ a.now.id) × HasMark bs.0.log))
    (λ κs a gh. via 𝓤 _ (snd∗ 𝓤 (fact 𝓤 _) _) (both 𝓤 (both 𝓤 (id⊢ 𝓤 _))))
    (Goes-dropped 𝓛 3 (plain (λ _. LoggedRow)) yes (λ κs x f. refl), tt) (λ κs. ((λ s. vstruct vnil ∷ []), tt))
    (λ κs. ((λ s vs so. no_bytes_told vs so.0), tt)) T #self code.function (code.unfolded 𝓤 𝓛.H 𝓜 𝓡 wired (T, tt))
    (λ κs qs a bs gh Post is are ends go. let b : ℕ = a.ref_ptr.0 in let o : ℕ = a.ref_ptr.1 in let h = a.now in
    let p : Ptr = h.block in let x : (HeldRow R).Denot = h.held in let η : BlockId = h.id in let n : ℕ = h.number in
    let old : List Entry = bs.0.log in let has : HasMark old = is.1.1 in
    let pb : ℕ = block_of p in let po : ℕ = offset_of p in
    move ! (3 ∷ []) $ fsplit ! $ fsplit ! $ move ! (1 ∷ []) $
    rewrite ! 0 (λ (z : BlockId). ‵ (reached z old)) is.1.0 refl $
    -- [what is lent; the token; the other tokens; the log]
    keep ! (3 ∷ 4 ∷ 5 ∷ 0 ∷ []) $
    alloc_all ! (λ l. pass_all ! refl ((tt, tt), ((tt, tt), tt)) $
    move ! (3 ∷ []) $ use1 𝓛 (‵ (reached η old) ⊛ ‵ (reached η old)) (at_least_dup logs 𝓛 η.log (kept_log old)) $
    split ! $ move ! (2 ∷ 3 ∷ 4 ∷ []) $
    opens_handle R p x η n ! tt h.sole h.log is.0 b o (λ inb i e r.
    let s : SharedBlock = block_at R p x η n i in
    -- [the word; what it says; the token's way back; the open borrow; the share; the rule; the sharing; the
    -- other tokens; the log, twice]
    sets ! (field_behind ! 0 refl refl refl refl) refl (tt, tt) $
    shuts ! tt (HandleWords R) r (p, tt) (one_word (block_ptr pb po) ∷ []) b o $
    -- [half of the token; the open borrow; the share; the rule; the sharing; the other tokens; the log]
    move ! (6 ∷ 2 ∷ []) $ fjoin ! $ move ! (0 ∷ 3 ∷ []) $
    under_rule ! (later (‵ (Known 𝓛 s e old has))) (knows 𝓛 s e old has) $ await ! tt $ fsplit ! $
    -- [the mark; the share; the rule; half of the token; the open borrow; the sharing; the other tokens]
    use1 𝓛 (‵ (marked i) ⊛ ‵ (marked i)) (𝓛.lfts.dead_dup (i.unmarked ∷ [])) $ split ! $ move ! (0 ∷ 2 ∷ []) $ fjoin ! $
    move ! (0 ∷ 2 ∷ []) $ under_rule ! (later (‵ (BornSome 𝓛 s e))) (born 𝓛 s e) $ await ! tt $
    fpick ! (λ w. fpick ! (λ log. fsplit ! $
    -- [the share; a handle; the rule; the mark; half of the token; the open borrow; the sharing; the other tokens]
    move ! (0 ∷ 4 ∷ 5 ∷ []) $ closes_borrow ! tt $ move ! (0 ∷ 5 ∷ []) $ join ! $ move ! (1 ∷ []) $ fsplit ! $
    drop ! $
    -- [the new handle; the tokens; the rule; the mark; the sharing; the log]
    move ! (0 ∷ 2 ∷ 4 ∷ []) $ fjoin3 ! $ move ! (2 ∷ 0 ∷ []) $ fjoin ! $
    -- [the handle and the mark; the tokens; the log]
    nothing_more ! $ fpack ! (HasMark old) (λ _. ftrue) has $ move ! (3 ∷ 0 ∷ []) $ fjoin ! $ move ! (1 ∷ 0 ∷ []) $
    fjoin ! $ let L' = param_laws 0 T L in let stays = staying R L' p x η old in
    use1 𝓛 (later (‵ (marked_shares R p stays κs.1.0))) (becomes_lasting R L' p stays 𝓛 (newest log) i κs.1.0) $
    await ! tt $ first ! $ blocks ! $ sets ! (of_opd ! (get ! refl)) refl (tt, tt) $
    sets_last ! (addr ! (through ! refl (stop !))) refl (tt, tt) $
    go.ahead l 2 $ sets ! (of_opd ! (get ! refl)) refl (tt, tt) $
    rewrite ! 0 (λ (z : Ptr). ‵ (marked_shares R z stays κs.1.0)) (at_block p inb) refl $ hide ! $
    feq_i ! (List Val) (vptr pb po ∷ []) (vptr pb po ∷ []) refl $ fjoin ! $
    move ! (1 ∷ []) $ split ! $
    returns ! (look_at ! 0 refl) $ free_all ! refl $ keep ! (0 ∷ 1 ∷ 2 ∷ []) $
    by ! (ends (vptr pb po) (record { ref_ptr = (pb, po); now = stays }) (tt, tt) (so 𝓤 (refl, refl, refl))))))))
