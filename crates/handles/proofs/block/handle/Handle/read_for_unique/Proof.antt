-- `read_for_unique` is one load of the word, by which the handle knows whether it is the only one.
use Rattle.handles.proofs.Walks.{◌≡◌, ℕ, ◌+◌, List, [], ◌∷◌, refl, sym, ap, ◌∙◌, named, Val, vptr, full_share, via}
use Rattle.handles.proofs.Walks.{Lft, Share, Fml, ftrue, flft, ‵, raw, ◌⊛◌, later, ◌$◌, ◌∵◌, !, qed, by, move, keep}
use Rattle.handles.proofs.Walks.{drop, split, split3, join, fsplit, fsplit3, fjoin, fjoin3, fpick, use1, use2, await}
use Rattle.handles.proofs.Walks.{rewrite, alloc_all, pass_all, sets, fact, RattleType, owns, types_at, plain, Ptr}
use Rattle.handles.proofs.Walks.{block_ptr, block_of, offset_of, at_block, nothing_more, peeks, heard, Is, shows}
use Rattle.handles.proofs.Walks.{cell_at, param, param_laws, Stays, walk_of, fm, HeldRow, one_word, words_are}
use Rattle.handles.proofs.Walks.{HandleRow, HandleWords, known, asks_new, handle_at, is_handle, Adds, GName, Incl-refl}
use Rattle.handles.proofs.Walks.{mut_vals, mut_Tells, opens, closes, Goes-ref, stay_ref, is_one_handle, counted_handle}
use Rattle.handles.proofs.Walks.{handle_owns, block_at, and_logged, sole_shown, word_and_logged, word_and_logged-Good}
use Rattle.handles.proofs.Walks.{forgets, handle_settles, at_type, walks, BlockId, SharedBlock, Sharing, held_as, made}
use Rattle.handles.proofs.Walks.{use3, Bool, field_behind, asks_word, returns_found, no_more, agg, returns_logged}
use base.Fml.{fex}
use Rattle.handles.specs.Inside.Blocks.{known_log}
use contract.BorrowLft.{◌⊑◌}
use Rattle.atomic_table.proofs.Calls.{loads}
use Rattle.counting_word.specs.WordSteps as step
use Rattle.handles.proofs.Steps.UniqueReads.{reads_for_unique, after_unique_read}
use Rattle.handles.specs.contracts.block.handle.Handle as handle_type
use Rattle.handles.specs.contracts.block.handle.Handle.read_for_unique.{ended, clauses}
use Rattle.handles.specs.contracts.block.handle.Handle.read_for_unique.Key.{name as #self}
use Rattle.handles.proofs.block.handle.Handle.read_for_unique.Statement.{statement}
use Rattle.handles.proofs.block.handle.Handle.read_for_unique.Code as code

pub read_for_unique_spec : {M : Type 1} → statement M
read_for_unique_spec 𝓤 𝓛 𝓜 𝓡 wired T L =
    let R : RattleType = param 0 T in let En = ended T in let c = clauses T 𝓛 𝓜.mem 𝓡.returns in
    let Self : RattleType = HandleRow R in let D : RattleType = HandleWords R in let row = plain (λ _. Self) in
    let hs : Stays En.signature.params En.kept = (stay_ref (0 ∷ []) tt row, tt) in
    walks (at_type T) code.function 𝓛 𝓜 𝓡 En hs c (Goes-ref 𝓛 2 0 tt row, tt) #self
    (code.unfolded 𝓤 𝓛.H 𝓜 𝓡 wired (T, tt)) (λ κs. (mut_vals, tt)) (λ κs. (mut_Tells (named 0) κs.0 Self, tt))
    (λ κs qs bounds a gh are go ends.
    let b : ℕ = a.0.ref_ptr.0 in let o : ℕ = a.0.ref_ptr.1 in let κ : Lft = κs.0 in let q : Share = qs.0 in
    let μ : Lft = κs.1.0 in let r : Share = qs.1.0 in let me : Self.Denot = a.0.now in let p : Ptr = me.block in
    let x : (HeldRow R).Denot = me.held in let η : BlockId = me.id in let n : ℕ = me.number in
    let γ : GName = a.0.ghost_name in
    let pb : ℕ = block_of p in let po : ℕ = offset_of p in
    let y : (walk_of 𝓛 En hs c).Ghost = ((κs, qs, bounds, a, (vptr b o ∷ [], tt)), gh) in
    qed 𝓛 (((‵ (flft κ q) ⊛ ‵ (flft μ r) ⊛ ‵ ftrue) ⊛ ‵ (owns (types_at En.signature.params κs)
    a y.0.4)) ∷ raw (fact 𝓤 (μ ⊑ T.lives)) ∷ ‵ ftrue ∷ []) ∵
    keep ! (1 ∷ 0 ∷ []) $ heard ! (μ ⊑ T.lives) (λ lives. split ! $ split3 ! $ move ! (3 ∷ []) $ fsplit ! $ fsplit3 ! $
    go.enters (vptr b o ∷ []) refl $ alloc_all ! (λ l. pass_all ! refl ((tt, tt), tt) $
    -- [the reference's place; its name; its borrow; nothing; its token; the token of T; nothing]
    move ! (1 ∷ 2 ∷ 4 ∷ []) $ opens ! tt Self {h = me} b o (λ vs. move ! (1 ∷ []) $ fsplit ! $
    peeks ! D (Is D) (shows 𝓛 D) (p, tt)
    vs (λ is_so. let ev : vs ≡ one_word p ∷ [] = words_are (handle_type.the_type R).name (R ∷ [])
    p vs is_so in drop ! $ fsplit ! $ fpick ! (λ inb. drop ! $ let at : p ≡ block_ptr pb po = at_block p inb in
    rewrite ! 1 (λ (ws : List Val). ‵ (cell_at full_share Self.mir ws b o))
    (ev ∙ ap (λ (z : Ptr). one_word z ∷ []) at) refl $
    -- [what it owns; its cell; the open borrow; its two names; its place; nothing; the token of T; nothing]
    use1 𝓛 (‵ (fex Sharing (held_as R p x η n))) (forgets R (param_laws 0 T L) 𝓛 p x η n me.sole me.log) $
    move ! (0 ∷ 7 ∷ []) $
    use2 𝓛 (later (‵ (counted_handle R p x η n) ⊛ ‵ (flft μ r))) (handle_settles R (param_laws 0 T L)
    𝓛 p x η n μ lives μ r (Incl-refl μ)) $ await ! tt $ split ! $ fpick ! (λ i. fsplit3 ! $
    let b' : SharedBlock = block_at R p x η n i in
    let aft : ℕ → Fml = and_logged b' [] (made n step.reads_for_unique) (after_unique_read b') in
    sets ! (field_behind ! 4 refl refl refl refl) refl (tt, tt) $
    asks_new ! (via 𝓤 _ (reads_for_unique 𝓛 b')
    (loads 𝓛 𝓜 𝓡 (code.calls-core::raw_atomic::load 𝓡.env wired) (block_ptr pb (po + 0)) aft)) $
    asks_word l ! (fm 𝓛 𝓜 𝓡) aft refl refl (λ Δ last. last) (λ w fits.
    fpick ! (λ log. let sole : Bool = is_one_handle w in
    let reported : Self.Denot = handle_at R p x sole η n (known_log sole log) in
    fsplit ! $ fsplit ! $ move ! (1 ∷ []) $ fpick ! (λ adds. drop ! $
    -- [that the log was reached; the right and the pass; the rule; the sharing; the token of T; ..]
    move ! (1 ∷ 2 ∷ 3 ∷ []) $
    use3 𝓛 (later (‵ (handle_owns R p x η n sole (known_log sole log)))) (sole_shown 𝓛 R p x η n inb i sole log) $
    await ! tt $
    -- [the right; that the log was reached; the token of T; the cell; the open borrow; its two names; its place]
    rewrite ! 3 (λ (z : Ptr). ‵ (cell_at full_share Self.mir (one_word z ∷ []) b o)) (sym at) refl $
    is_handle R p x η n ! sole (known_log sole log) $
    move ! (3 ∷ 0 ∷ 4 ∷ 5 ∷ 6 ∷ []) $ closes ! tt Self reported (one_word p ∷ []) b o $
    -- [its name; its borrow; its token; that the log was reached; the token of T; its place; nothing; nothing]
    move ! (5 ∷ 0 ∷ 1 ∷ []) $ fjoin3 ! $ move ! (3 ∷ 4 ∷ []) $ join ! $ move ! (2 ∷ 0 ∷ []) $ join ! $ move ! (2 ∷ []) $
    returns_found l ! refl (agg ! (no_more !)) (tt, tt) (word_and_logged-Good w fits) $ returns_logged η w ! fits log $
    known ! (Adds x.limit.count [] (made n step.reads_for_unique) w log) adds $ known ! (η ≡ η) refl $ join ! $
    known ! (reported ≡ reported) refl $ join ! $
    -- [the facts; the result; the tokens; the reference; nothing]
    nothing_more ! $ move ! (4 ∷ 0 ∷ []) $ fjoin ! $ keep ! (3 ∷ 0 ∷ 2 ∷ 1 ∷ []) $
    by ! (ends (word_and_logged w) (w, record { id = η; log = log }) (reported, tt) (tt, tt))))))))))))
