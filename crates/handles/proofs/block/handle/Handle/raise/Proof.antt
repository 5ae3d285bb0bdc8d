-- `raise` is one compare-exchange of the word.
use Rattle.handles.proofs.Steps.Shared.{reached}
use Rattle.handles.proofs.Walks.{snd∗, id⊢, both, parted, word_at, nothing, its_field, rewrite, ◌≡◌, ℕ, ◌+◌, ◌<◌}
use Rattle.handles.proofs.Walks.{false, [], ◌∷◌, refl, sym, ap, w64, via, Fml, ‵, ◌$◌, !, by, move, keep, fsplit}
use Rattle.handles.proofs.Walks.{fsplit3, fjoin, stop, fld, addr, of_opd, no_more, and_then, first, blocks, Calls-last}
use Rattle.handles.proofs.Walks.{returns, alloc_all, pass_all, free_all, look_at, get, through, sets, lands_last, is}
use Rattle.handles.proofs.Walks.{agg, fact, yes, RattleType, plain, Ptr, at_block, shuts, param, u64, Goes-dropped, fm}
use Rattle.handles.proofs.Walks.{found, finds, Right, HeldRow, one_word, word_and_permit, one_word-Good, HandleRow}
use Rattle.handles.proofs.Walks.{HandleWords, returns_permit, word_and_permit-Good, opens_handle, PermitRow, ptr_val}
use Rattle.handles.proofs.Walks.{no, so, permit_worded, permit_at, asks_with, reports, also, block_at, and_logged}
use Rattle.handles.proofs.Walks.{List, ◌∙◌, Entry, made, newest, SharedBlock, BlockId, raise-NoBlock, uint_vals}
use Rattle.handles.proofs.Walks.{uint_Tells, right_by_raise, Fits, by_ref_and}
use Rattle.handles.specs.Founds.{HasFound}
use Rattle.atomic_table.proofs.Calls.{exchanges}
use Rattle.counting_word.specs.WordSteps as step
use Rattle.handles.proofs.Steps.Raises.{raises, after_raise}
use Rattle.handles.specs.contracts.block.handle.Handle.raise.{clauses}
use Rattle.handles.specs.contracts.block.handle.Handle.raise.Key.{name as #self}
use Rattle.handles.proofs.block.handle.Handle.raise.Statement.{statement}
use Rattle.handles.proofs.block.handle.Handle.raise.Code as code

pub raise_spec : {M : Type 1} → statement M
raise_spec 𝓤 𝓛 𝓜 𝓡 wired T L =
    let R : RattleType = param 0 T in let number = Goes-dropped 𝓛 2 (plain (λ _. u64)) yes (λ κs x f. refl) in
    by_ref_and (HandleRow R) tt {m = 1} (plain (λ _. u64) ∷ plain (λ _. u64) ∷ plain (λ _. PermitRow R) ∷ [])
    (yes, (yes, (no, tt))) 𝓛 𝓜 𝓡 (clauses T 𝓛 𝓜.mem 𝓡.returns) (λ κs a bs. let h = a.now in let m = bs.1.1.0 in
    (h.sole ≡ false) × ((bs.0 < h.held.limit.count) × ((bs.1.0 ≡ bs.0 + 1) × ((m.block ≡ h.block)
    × ((m.right ≡ nothing) × ((m.id ≡ h.id) × HasFound h.number bs.0 m.log))))))
    (λ κs a gh. via 𝓤 _ (snd∗ 𝓤 (fact 𝓤 _) _) (both 𝓤 (both 𝓤 (both 𝓤 (both 𝓤 (both 𝓤 (both 𝓤 (id⊢ 𝓤 _))))))))
    (number, (number, (Goes-dropped 𝓛 2 (plain (λ _. PermitRow R)) no (λ κs x f. refl), tt)))
    (λ κs. (uint_vals w64, (uint_vals w64, ((λ s. one_word s.block ∷ []), tt))))
    (λ κs. (uint_Tells w64, (uint_Tells w64, ((permit_worded R).tells, tt)))) T #self code.function
    (code.unfolded 𝓤 𝓛.H 𝓜 𝓡 wired (T, tt)) (λ κs qs a bs gh Post asked are ends go.
    let b : ℕ = a.ref_ptr.0 in let o : ℕ = a.ref_ptr.1 in let h = a.now in let p : Ptr = h.block in
    let x : (HeldRow R).Denot = h.held in let η : BlockId = h.id in let n : ℕ = h.number in
    let seen : ℕ = bs.0 in let next : ℕ = bs.1.0 in let old : List Entry = bs.1.1.0.log in
    move ! (3 ∷ []) $ fsplit3 ! $ move ! (2 ∷ []) $ fsplit ! $ fsplit ! $ move ! (1 ∷ []) $
    fsplit ! $ rewrite ! 0 (λ (z : BlockId). ‵ (reached z old)) asked.1.1.1.1.1.0 refl $
    -- [what is lent; the token; the other tokens; that the log was reached]
    keep ! (6 ∷ 7 ∷ 8 ∷ 0 ∷ []) $ let s_fits : Fits w64 seen = record { fits = are.0.1 } in
    let n_fits : Fits w64 next = record { fits = are.1.0.1 } in
    alloc_all ! (λ l. pass_all ! refl ((tt, tt), ((tt, s_fits), ((tt, n_fits), (one_word-Good bs.1.1.0.block, tt)))) $
    opens_handle R p x η n ! tt h.sole h.log asked.0 b o (λ inb i e r.
    -- [the word; what it says; the token's way back; the open borrow; the share; the rule; the sharing; the other
    -- tokens; that the log was reached]
    sets ! (is ! (its_field ! refl refl refl)
    (ap ptr_val (asked.1.1.1.0 ∙ at_block p inb))) refl (tt, tt) $
    shuts ! tt (HandleWords R) r (p, tt) (one_word (parted p) ∷ []) b o $
    -- [half of the token; the open borrow; the share; the rule; the sharing; the other tokens; the log]
    let s : SharedBlock = block_at R p x η n i in
    let aft : ℕ → Fml = and_logged s old (made n (step.raises_from seen)) (after_raise s e seen) in
    first ! $ blocks ! $ sets ! (addr ! (through ! refl (fld ! refl (stop !)))) refl (tt, tt) $
    move ! (6 ∷ 2 ∷ []) $ fjoin ! $ move ! (0 ∷ 3 ∷ []) $
    asks_with ! (via 𝓤 _ (raises 𝓛 s e seen old asked.1.0 asked.1.1.1.1.1.1 next asked.1.1.0)
    (exchanges 𝓛 𝓜 𝓡 (code.calls-atomic_table::exchange 𝓡.env wired)
    (word_at p) seen next are.0.1 are.1.0.1 aft)) $
    Calls-last ! (fm 𝓛 𝓜 𝓡) (found aft) (and_then ! (get ! refl) (and_then ! (get ! refl)
    (and_then ! (get ! refl) (no_more !)))) (λ u. finds ! aft (λ w fits. let r' : Right = right_by_raise seen w in
    lands_last ! refl (tt, record { fits = fits }) $ go.ahead l 2 $
    sets ! (of_opd ! (get ! refl)) refl (tt, record { fits = fits }) $
    reports R p x η n ! tt inb i e r' (raise-NoBlock seen w) old (step.raises_from seen) w (λ within log adds.
    sets ! (is ! (agg ! (and_then ! (get ! refl) (no_more !))) (ap one_word (sym (at_block p inb))))
    refl (one_word-Good p) $ sets ! (agg ! (and_then ! (get ! refl) (and_then ! (get ! refl) (no_more !))))
    refl (word_and_permit-Good w fits p) $ returns_permit R p x η (newest log) ! w fits r' log $
    returns ! (look_at ! 0 refl) $ free_all ! refl $ keep ! (1 ∷ 2 ∷ 0 ∷ []) $
    by ! (ends (word_and_permit w p) (w, permit_at R p x r' η (newest log) log) (tt, (tt, (tt, tt)))
    (also 𝓤 refl (also 𝓤 refl (also 𝓤 within (also 𝓤 refl (also 𝓤 refl (also 𝓤 refl (so 𝓤 adds))))))))))))))
