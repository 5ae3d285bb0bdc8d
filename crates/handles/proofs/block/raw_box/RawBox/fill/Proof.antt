-- `fill` writes a value into its room.
use Rattle.handles.proofs.Walks.{dropped_at, so, fact_i, its_field, [], ◌∷◌, ◌++◌, refl, Val, vptr, full_share, ‵, ◌$◌}
use Rattle.handles.proofs.Walks.{ !, by, move, keep, fsplit3, fjoin, use2, stop, of_opd, no_more, and_then, first}
use Rattle.handles.proofs.Walks.{blocks, returns, alloc_all, pass_all, free_all, look_at, get, through, sets, agg, no}
use Rattle.handles.proofs.Walks.{RattleType, plain, block_ptr, param, Goes-dropped, init, assigns_last, part_at}
use Rattle.handles.proofs.Walks.{Global, Goes-blank, heap, pair_val, raw_box-Good, raw_box_shuts, at_type}
use Rattle.std_alloc.proofs.BoxSteps.Form as box
use Rattle.std_alloc.proofs.BoxSteps.Steps.{el_tells, el_in}
use Rattle.std_alloc.specs.contracts.room.vacant.Vacant as vacant
use Rattle.std_alloc.proofs.OfVacant.{vacant_val, vacant_typed, Vacant-had}
use Rattle.std_alloc.proofs.RawLayout.{as_written}
use Rattle.handles.specs.contracts.block.raw_box.RawBox.fill.{ended, clauses}
use Rattle.handles.specs.contracts.block.raw_box.RawBox.fill.Key.{name as #self}
use Rattle.handles.proofs.block.raw_box.RawBox.fill.Statement.{statement}
use Rattle.handles.proofs.block.raw_box.RawBox.fill.Code as code

pub fill_spec : {M : Type 1} → statement M
fill_spec 𝓤 𝓛 𝓜 𝓡 wired T L =
    let R : RattleType = param 0 T in let E : box.Bx = record { row = T; laws = L; al = heap } in
    let room = plain (λ _. vacant.the_row R heap.row heap.g) in let item = plain (λ _. R) in
    dropped_at (at_type T) code.function 𝓛 𝓜 𝓡 (ended T) (clauses T 𝓛 𝓜.mem 𝓡.returns) (λ κs a. Unit {0})
    (λ κs a gh. fact_i 𝓤 _ _ tt)
    (Goes-blank 𝓛 1 room no (λ κs x f. tt), (Goes-dropped 𝓛 1 item no (λ κs x f. refl), tt))
    #self (code.unfolded 𝓤 𝓛.H 𝓜 𝓡 wired (T, tt)) (λ κs z vss qs gh Post asked are ends go.
    let a : Global = z.0.alloc in let x : T.Denot = z.1.0 in
    fsplit3 ! $ Vacant-had heap R ! z.0 vss.0 (λ b o h at is_room good. move ! (3 ∷ []) $
    el_tells E ! x vss.1.0 (λ v is_item fits.
    -- [what the value owns; the room; the right to free; the allocator; nothing; the tokens]
    move ! (1 ∷ []) $ as_written ! (box.τ E) b o $ let w : Val = vacant_val h b o in
    go.enters (w ∷ v ∷ []) (λ j. is_room j ++ (is_item j ++ [])) $
    alloc_all ! (λ l. pass_all ! refl (vacant_typed heap R h b o good, (fits, tt)) $
    sets ! (its_field ! refl refl refl) refl (tt, tt) $
    sets ! (its_field ! refl refl refl) refl good $
    first ! $ blocks ! $ sets ! (of_opd ! (get ! refl)) refl fits $
    assigns_last ! (of_opd ! (get ! refl)) (through ! refl (stop !)) (init ! 0 refl fits) $
    go.ahead l 3 $
    sets ! (agg ! (and_then ! (get ! refl) (and_then ! (get ! refl) (no_more !)))) refl (raw_box-Good b o h good) $
    use2 𝓛 (‵ (part_at R full_share x b o)) (el_in E 𝓛 x b o v) $ fjoin ! $ raw_box_shuts R ! b o h a x $
    returns ! (look_at ! 0 refl) $ free_all ! refl $ keep ! (2 ∷ 0 ∷ []) $
    by ! (ends (pair_val (vptr b o) h) (record { at = block_ptr b o; alloc = a; value = x }) (tt, (tt, tt))
    (so 𝓤 refl))))))
