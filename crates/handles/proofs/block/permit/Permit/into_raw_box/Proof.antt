-- `into_raw_box` takes a block that nobody shares, with the allocator that it was requested from.
use Rattle.handles.proofs.Walks.{its_field, ◌≡◌, ℕ, ◌+◌, [], ◌∷◌, refl, ap, Val, vptr, full_share, fat, ‵, ◌⊛◌, some}
use Rattle.handles.proofs.Walks.{given, ◌$◌, !, by, move, keep, drop, split, fsplit, fsplit3, fjoin3, fpick, pick}
use Rattle.handles.proofs.Walks.{learn, use1, use2, rewrite, stop, fld, load, of_opd, no_more, and_then, first, blocks}
use Rattle.handles.proofs.Walks.{returns, alloc_all, pass_all, free_all, look_at, get, through, sets, sets_last, is}
use Rattle.handles.proofs.Walks.{agg, fact, RattleType, Ptr, block_ptr, ptr_val, block_of, offset_of, at_block, param}
use Rattle.handles.proofs.Walks.{layout, Right, HeldRow, permit_owns, one_word-Good, by_value, permit_worded, so, also}
use Rattle.handles.proofs.Walks.{heap_row, pair_val, raw_box-Good, raw_box_shuts, look, whole_block, IsWholeBlock}
use Rattle.handles.proofs.Walks.{heap_offset, unshared_block, Good, group, part_at, Boxed, box_shuts, heap_twice}
use Rattle.handles.proofs.Walks.{whole_block_of, snd∗, BlockId}
use Rattle.handles.specs.contracts.block.Block as block_type
use borrow.Table.OneValue.{part_in, part_out}
use Rattle.handles.specs.contracts.block.permit.Permit.into_raw_box.{clauses}
use Rattle.handles.specs.contracts.block.permit.Permit.into_raw_box.Key.{name as #self}
use Rattle.handles.proofs.block.permit.Permit.into_raw_box.Statement.{statement}
use Rattle.handles.proofs.block.permit.Permit.into_raw_box.Code as code

pub into_raw_box_spec : {M : Type 1} → statement M
into_raw_box_spec 𝓤 𝓛 𝓜 𝓡 wired T L =
    let R : RattleType = param 0 T in by_value (permit_worded R) 𝓛 𝓜 𝓡 (clauses T 𝓛 𝓜.mem 𝓡.returns)
    (λ κs a. IsWholeBlock a.right) (λ κs a gh. snd∗ 𝓤 (fact 𝓤 _) (fact 𝓤 _))
    T #self code.function (code.unfolded 𝓤 𝓛.H 𝓜 𝓡 wired (T, tt)) (λ κs qs a gh Post asked ends go.
    let p : Ptr = a.block in let x : (HeldRow R).Denot = a.held in let η : BlockId = a.id in let pb : ℕ = block_of p in
    let po : ℕ = offset_of p in let there : Ptr = block_ptr pb po in
    let Block : RattleType = block_type.the_row R in let n : ℕ = (whole_block_of a.right asked).0 in
    let is_whole : a.right ≡ whole_block n = (whole_block_of a.right asked).1 in
    rewrite ! 0 (λ (r : Right). ‵ (permit_owns R p x η a.number r a.log)) is_whole refl $ fsplit ! $ drop ! $
    fsplit ! $ fpick ! (λ inb. drop ! $ let at : p ≡ block_ptr pb po = at_block p inb in
    rewrite ! 0 (λ (z : Ptr). ‵ (unshared_block R z x η n a.log)) at refl $
    fsplit3 ! $ fsplit ! $ move ! (1 ∷ []) $ drop ! $ move ! (1 ∷ []) $ fsplit ! $ move ! (1 ∷ []) $
    fpick ! (λ h. fsplit3 ! $
    -- [the handle of the heap; the right to free; what is left; the value; the word; the stamp; the tokens]
    use1 𝓛 (some (λ (v : Val). ‵ (fat full_share (denote.Memory.lone heap_row.mir) pb (po + heap_offset R) v)
    ⊛ ‵ (heap_row.own_val h (v ∷ [])))) (part_out 𝓛 heap_row refl full_share h pb (po + heap_offset R))
    $ pick ! (λ v. split ! $
    use1 𝓛 (given (Good (layout heap_row) v) (‵ (fat full_share (layout heap_row) pb (po + heap_offset R) v)))
    (𝓛.laws.at_wt full_share (layout heap_row) pb (po + heap_offset R) v) $ learn ! (λ good.
    alloc_all ! (λ l. pass_all ! refl (one_word-Good p, tt) $
    sets ! (is ! (its_field ! refl refl refl) (ap ptr_val at)) refl (tt, tt)
    $ sets ! (of_opd ! (get ! refl)) refl (tt, tt) $
    first ! $ blocks ! $ sets_last ! (of_opd ! (load ! (through ! refl (fld ! refl (stop !))) (look ! 0 refl)))
    refl good $ go.ahead l 3 $ sets ! (of_opd ! (get ! refl)) refl good $
    sets ! (agg ! (and_then ! (get ! refl) (and_then ! (get ! refl) (no_more !)))) refl (raw_box-Good pb po v good) $
    move ! (1 ∷ []) $ use1 𝓛 (‵ (heap_row.own_val h (v ∷ [])) ⊛ ‵ (heap_row.own_val h (v ∷ [])))
    (heap_twice 𝓛 h (v ∷ [])) $ split ! $ move ! (2 ∷ 0 ∷ []) $
    use2 𝓛 (‵ (part_at heap_row full_share h pb (po + heap_offset R)))
    (part_in 𝓛 heap_row refl full_share h pb (po + heap_offset R) v) $ move ! (0 ∷ 2 ∷ 3 ∷ []) $
    fjoin3 ! $ move ! (4 ∷ []) $ fpick ! (λ s.
    -- [the stamp; what frees; the allocator; the value; the word; the tokens]
    move ! (4 ∷ 0 ∷ 3 ∷ 1 ∷ []) $ group ! 4 $ use1 𝓛 (‵ (Boxed T L 𝓛 pb po n s x h)) (box_shuts T L 𝓛 pb po n s x h) $
    raw_box_shuts Block ! pb po v h (record { word = n; stamp = s; held = x; alloc = h }) $
    returns ! (look_at ! 0 refl) $ free_all ! refl $ keep ! (1 ∷ 0 ∷ []) $ by ! (ends (pair_val (vptr pb po) v)
    (record { at = there; alloc = h; value = record { word = n; stamp = s; held = x; alloc = h } })
    (also 𝓤 refl (so 𝓤 is_whole))))))))))
