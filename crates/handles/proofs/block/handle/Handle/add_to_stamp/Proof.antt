-- `add_to_stamp` is one addition to the stamp.
use Rattle.handles.proofs.Walks.{snd∗, id⊢, emp, parted, field_behind, ◌≡◌, ℕ, ◌+◌, ◌%◌, ◌^◌, false, [], ◌∷◌, refl}
use Rattle.handles.proofs.Walks.{lit<, w64, vint, via, Fml, ◌$◌, !, by, move, keep, stop, fld, addr, lit, of_opd}
use Rattle.handles.proofs.Walks.{no_more, and_then, first, blocks, Calls-last, returns, alloc_all, pass_all, free_all}
use Rattle.handles.proofs.Walks.{look_at, get, through, sets, lands_last, agg, fact, yes, RattleType, plain, Ptr}
use Rattle.handles.proofs.Walks.{block_ptr, block_of, offset_of, shuts, param, u64, Goes-dropped, fm, found, finds}
use Rattle.handles.proofs.Walks.{HeldRow, one_word, HandleRow, HandleWords, is_number, opens_handle, closes_borrow}
use Rattle.handles.proofs.Walks.{asks_with, uint_vals, uint_Tells, stamp_offset, lent_share, block_at, stamps, BlockId}
use Rattle.handles.proofs.Walks.{by_ref_and}
use Rattle.atomic_table.proofs.Calls.{adds}
use Rattle.handles.specs.contracts.block.handle.Handle.add_to_stamp.{clauses}
use Rattle.handles.specs.contracts.block.handle.Handle.add_to_stamp.Key.{name as #self}
use Rattle.handles.proofs.block.handle.Handle.add_to_stamp.Statement.{statement}
use Rattle.handles.proofs.block.handle.Handle.add_to_stamp.Code as code

pub add_to_stamp_spec : {M : Type 1} → statement M
add_to_stamp_spec 𝓤 𝓛 𝓜 𝓡 wired T L =
    let R : RattleType = param 0 T in
    by_ref_and (HandleRow R) tt {m = 1} (plain (λ _. u64) ∷ []) (yes, tt) 𝓛 𝓜 𝓡 (clauses T 𝓛 𝓜.mem 𝓡.returns)
    (λ κs a bs. a.now.sole ≡ false) (λ κs a gh. snd∗ 𝓤 (fact 𝓤 _) (fact 𝓤 _))
    (Goes-dropped 𝓛 2 (plain (λ _. u64)) yes (λ κs x f. refl), tt) (λ κs. (uint_vals w64, tt))
    (λ κs. (uint_Tells w64, tt)) T #self code.function (code.unfolded 𝓤 𝓛.H 𝓜 𝓡 wired (T, tt))
    (λ κs qs a bs gh Post shared are ends go. let b : ℕ = a.ref_ptr.0 in let o : ℕ = a.ref_ptr.1 in
    let h = a.now in let p : Ptr = h.block in let x : (HeldRow R).Denot = h.held in
    let η : BlockId = h.id in let n : ℕ = h.number in let amount : ℕ = bs.0 in
    alloc_all ! (λ l. pass_all ! refl ((tt, tt), ((tt, record { fits = are.0.1 }), tt)) $
    opens_handle R p x η n ! tt h.sole h.log shared b o (λ inb i e r.
    sets ! (field_behind ! 0 refl refl refl refl) refl (tt, tt) $
    shuts ! tt (HandleWords R) r (p, tt) (one_word (parted p) ∷ []) b o $
    -- [half of the token; the open borrow; the share; the rule; the sharing; the other tokens]
    let at_stamp : ℕ = offset_of p + stamp_offset in let aft : ℕ → Fml = λ _. lent_share i η n e in
    first ! $ blocks ! $ sets ! (addr ! (through ! refl (fld ! refl (stop !)))) refl (tt, tt) $ move ! (2 ∷ 3 ∷ []) $
    asks_with ! (via 𝓤 _ (stamps 𝓛 (block_at R p x η n i) at_stamp e (λ w. (w + amount) % 2 ^ 64))
    (adds 𝓛 𝓜 𝓡 (code.calls-core::raw_atomic::fetch_add 𝓡.env wired) (block_ptr (block_of p) at_stamp) amount are.0.1
    aft)) $
    sets ! (agg ! (and_then ! (lit ! tt) (no_more !))) refl (tt, (record { fits = lit< tt }, tt)) $
    Calls-last ! (fm 𝓛 𝓜 𝓡) (found aft) (and_then ! (get ! refl) (and_then ! (get ! refl)
    (and_then ! (get ! refl) (no_more !)))) (λ u. finds ! aft (λ w fits.
    lands_last ! refl (tt, record { fits = fits }) $ go.ahead l 2 $
    sets ! (of_opd ! (get ! refl)) refl (tt, record { fits = fits }) $
    -- [the share; the rule; half of the token; the open borrow; the sharing; the other tokens]
    move ! (0 ∷ 2 ∷ 3 ∷ []) $ closes_borrow ! tt $ is_number ! w fits $
    returns ! (look_at ! 0 refl) $ free_all ! refl $ keep ! (1 ∷ 4 ∷ 0 ∷ []) $
    by ! (ends (vint w64 w) w (tt, tt) (id⊢ 𝓤 (emp 𝓤))))))))
