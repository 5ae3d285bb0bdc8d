-- `lower` is one subtraction from the word.
use Rattle.handles.proofs.Walks.{◌≡◌, ℕ, ◌+◌, [], ◌∷◌, refl, sym, ap, lit<, via, Fml, ‵, later, ◌$◌, !, by, move}
use Rattle.handles.proofs.Walks.{keep, drop, fsplit, fjoin, fpick, use2, await, rewrite, stop, fld, addr, lit, of_opd}
use Rattle.handles.proofs.Walks.{no_more, and_then, first, blocks, Calls-last, returns, alloc_all, pass_all, free_all}
use Rattle.handles.proofs.Walks.{look_at, get, get_in, through, sets, lands_last, is, agg, sub, whole, fact}
use Rattle.handles.proofs.Walks.{RattleType, Ptr, block_ptr, ptr_val, block_of, offset_of, at_block, param, fm, found}
use Rattle.handles.proofs.Walks.{finds, Right, HeldRow, permit_owns, one_word, word_and_permit, one_word-Good}
use Rattle.handles.proofs.Walks.{returns_permit, word_and_permit-Good, by_value, permit_worded, permit_at, so, also}
use Rattle.handles.proofs.Walks.{asks_with, given, learn, List, Entry, made, SharedBlock, BlockId, Adds, to_lower}
use Rattle.handles.proofs.Walks.{right_by_lower, block_at, and_logged, lower-NoHandle, permit_kept, snd∗}
use Rattle.atomic_table.proofs.Calls.{subs}
use Rattle.counting_word.specs.WordSteps as step
use Rattle.handles.proofs.Steps.Lowers.{lowers, after_lower}
use Rattle.handles.specs.contracts.block.permit.Permit.lower.{clauses}
use Rattle.handles.specs.contracts.block.permit.Permit.lower.Key.{name as #self}
use Rattle.handles.proofs.block.permit.Permit.lower.Statement.{statement}
use Rattle.handles.proofs.block.permit.Permit.lower.Code as code

pub lower_spec : {M : Type 1} → statement M
lower_spec 𝓤 𝓛 𝓜 𝓡 wired T L =
    let R : RattleType = param 0 T in by_value (permit_worded R) 𝓛 𝓜 𝓡 (clauses T 𝓛 𝓜.mem 𝓡.returns)
    (λ κs a. a.right ≡ to_lower) (λ κs a gh. snd∗ 𝓤 (fact 𝓤 _) (fact 𝓤 _))
    T #self code.function (code.unfolded 𝓤 𝓛.H 𝓜 𝓡 wired (T, tt)) (λ κs qs a gh Post asked ends go.
    let p : Ptr = a.block in let x : (HeldRow R).Denot = a.held in let η : BlockId = a.id in let n : ℕ = a.number in
    let pb : ℕ = block_of p in
    let po : ℕ = offset_of p in let old : List Entry = a.log in
    rewrite ! 0 (λ (r : Right). ‵ (permit_owns R p x η n r old)) asked refl $ fsplit ! $ move ! (1 ∷ []) $ fsplit ! $
    fpick ! (λ inb. drop ! $ let at : p ≡ block_ptr pb po = at_block p inb in
    fpick ! (λ i. fsplit ! $
    alloc_all ! (λ l. pass_all ! refl (one_word-Good p, tt) $
    -- [the part; the rule; that the log was reached; the token]
    let s : SharedBlock = block_at R p x η n i in
    let aft : ℕ → Fml = and_logged s old (made n step.lowers) (after_lower s) in
    sets ! (is ! (of_opd ! (get_in ! (fld ! refl (stop !)) (sub ! 0 refl (whole !)))) (ap ptr_val at)) refl (tt, tt)
    $ first ! $ blocks ! $ sets ! (addr ! (through ! refl (fld ! refl (stop !)))) refl (tt, tt) $
    move ! (2 ∷ 0 ∷ []) $ fjoin ! $ asks_with ! (via 𝓤 _ (lowers 𝓛 s old)
    (subs 𝓛 𝓜 𝓡 (code.calls-core::raw_atomic::fetch_sub 𝓡.env wired) (block_ptr pb (po + 0)) 1 (lit< tt) aft)) $
    sets ! (agg ! (and_then ! (lit ! tt) (no_more !))) refl (tt, (record { fits = lit< tt }, tt)) $
    Calls-last ! (fm 𝓛 𝓜 𝓡) (found aft) (and_then ! (get ! refl) (and_then ! (lit ! tt)
    (and_then ! (get ! refl) (no_more !)))) (λ u. finds ! aft (λ w fits. let r' : Right = right_by_lower w in
    lands_last ! refl (tt, record { fits = fits }) $ go.ahead l 2 $
    sets ! (of_opd ! (get ! refl)) refl (tt, record { fits = fits }) $
    fpick ! (λ log.
    use2 𝓛 (later (given (Adds x.limit.count old (made n step.lowers) w log) (‵ (permit_owns R p x η n r' log))))
    (permit_kept 𝓛 R p x η n inb i old (made n step.lowers) w r' log (lower-NoHandle w)) $
    await ! tt $ learn ! (λ adds.
    sets ! (is ! (agg ! (and_then ! (get ! refl) (no_more !))) (ap one_word (sym at))) refl (one_word-Good p) $
    sets ! (agg ! (and_then ! (get ! refl) (and_then ! (get ! refl) (no_more !))))
    refl (word_and_permit-Good w fits p) $ returns_permit R p x η n ! w fits r' log $
    returns ! (look_at ! 0 refl) $ free_all ! refl $ keep ! (1 ∷ 0 ∷ []) $
    by ! (ends (word_and_permit w p) (w, permit_at R p x r' η n log) (also 𝓤 refl (also 𝓤 refl (also 𝓤 refl
    (so 𝓤 adds)))))))))))))
