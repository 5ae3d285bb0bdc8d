-- `first` makes the handle of a new block.
use Rattle.handles.proofs.Walks.{dropped_at, snd∗, is_handle, also, so, its_field, pick, await, ℕ, later, ◌≡◌, [], ◌∷◌}
use Rattle.handles.proofs.Walks.{◌++◌, refl, vptr, ftrue, ‵, ◌$◌, !, by, keep, fsplit, fjoin, fpack, use1, no_more}
use Rattle.handles.proofs.Walks.{and_then, returns, alloc_all, pass_all, free_all, look_at, get, sets, agg, fact, no}
use Rattle.handles.proofs.Walks.{RattleType, plain, Ptr, InBlock, block_ptr, nothing_more, param, HeldRow, one_word}
use Rattle.handles.proofs.Walks.{rewrite, true, exists, bare_block, BlockId, sole_handle, handle_at, Entry, List}
use Rattle.handles.proofs.Walks.{Goes-blank, pair_val, RawBoxRow, raw_box-Good, raw_box_opens, box_opens, at_type}
use Rattle.handles.specs.contracts.block.Block as block_type
use Rattle.handles.proofs.Blocks.New.{begins_sole}
use Rattle.handles.specs.contracts.block.handle.Handle.first.{ended, clauses}
use Rattle.handles.specs.contracts.block.handle.Handle.first.Key.{name as #self}
use Rattle.handles.proofs.block.handle.Handle.first.Statement.{statement}
use Rattle.handles.proofs.block.handle.Handle.first.Code as code

pub first_spec : {M : Type 1} → statement M
first_spec 𝓤 𝓛 𝓜 𝓡 wired T L =
    let R : RattleType = param 0 T in let Block : RattleType = block_type.the_row R in
    dropped_at (at_type T) code.function 𝓛 𝓜 𝓡 (ended T) (clauses T 𝓛 𝓜.mem 𝓡.returns) (λ κs a. a.0.value.word ≡ 1)
    (λ κs a gh. snd∗ 𝓤 (fact 𝓤 _) (fact 𝓤 _))
    (Goes-blank 𝓛 1 (plain (λ _. RawBoxRow Block)) no (λ κs x f. tt), tt) #self
    (code.unfolded 𝓤 𝓛.H 𝓜 𝓡 wired (T, tt)) (λ κs a vss qs gh Post new are ends go. let nil : List Entry = [] in
    let d = a.0 in let x : (HeldRow R).Denot = d.value.held in fsplit ! $
    raw_box_opens Block ! d vss.0 (λ b o h placed is_pair good. let p : Ptr = block_ptr b o in
    -- [the box; its allocator; nothing; the tokens]
    use1 𝓛 (‵ (bare_block R p x d.value.word)) (box_opens T L 𝓛 b o d.value.word d.value.stamp x d.value.alloc) $
    rewrite ! 0 (λ (w : ℕ). ‵ (bare_block R p x w)) new refl $
    use1 𝓛 (later (exists (λ (η : BlockId). ‵ (sole_handle R p x η 0 [])))) (begins_sole R 𝓛 p x) $ keep ! (0 ∷ 3
    ∷ []) $
    go.enters (pair_val (vptr b o) h ∷ []) (λ j. is_pair j ++ []) $
    alloc_all ! (λ l. pass_all ! refl (raw_box-Good b o h good, tt) $ await ! tt $ pick ! (λ η.
    nothing_more ! $ fpack ! (InBlock p) (λ _. ftrue) tt $ fjoin ! $
    is_handle R p x η 0 ! true nil $ sets ! (its_field ! refl refl refl) refl (tt, tt) $
    sets ! (agg ! (and_then ! (get ! refl) (no_more !))) refl (tt, (tt, tt)) $
    returns ! (look_at ! 0 refl) $ free_all ! refl $ keep ! (1 ∷ 0 ∷ []) $
    by ! (ends (one_word p) (handle_at R p x true η 0 nil) (tt, tt)
    (also 𝓤 refl (also 𝓤 refl (also 𝓤 refl (so 𝓤 refl)))))))))
