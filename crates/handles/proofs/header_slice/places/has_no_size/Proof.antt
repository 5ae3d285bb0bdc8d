-- `has_no_size` compares the size that a word holds.
use Rattle.handles.proofs.Places.{◌≡◌, Bool, List, [], ◌∷◌, refl, Val, ftrue, flft, ‵, raw, ◌⊛◌, ◌$◌, ◌∵◌, !, qed, by}
use Rattle.handles.proofs.Places.{move, keep, split, join, feq_i, lit, returns, alloc_all, pass_all, free_all, look_at}
use Rattle.handles.proofs.Places.{sets, fact, nothing_more, layout, capped, bin, size_word, vbool, eqb, capped_zero}
use Rattle.handles.proofs.Places.{at_type, walks, known}
use Rattle.std.specs.Prelude.{IsTrue, ◌↔◌}
use prog.Memory.{size}
use Rattle.handles.specs.contracts.header_slice.places.has_no_size.{ended, clauses}
use Rattle.handles.specs.contracts.header_slice.places.has_no_size.Key.{name as #self}
use Rattle.handles.proofs.header_slice.places.has_no_size.Statement.{statement}
use Rattle.handles.proofs.header_slice.places.has_no_size.Code as code

pub has_no_size_spec : {M : Type 1} → statement M
has_no_size_spec 𝓤 𝓛 𝓜 𝓡 wired T L =
    walks (at_type T) code.function 𝓛 𝓜 𝓡 (ended T) tt (clauses T 𝓛 𝓜.mem 𝓡.returns) tt #self
    (code.unfolded 𝓤 𝓛.H 𝓜 𝓡 wired (T, tt)) (λ κs. tt) (λ κs. tt) (λ κs qs bounds a gh are go ends.
    let same : Bool = eqb (capped (size (layout T))) 0 in
    qed 𝓛 (((‵ (flft κs.0 qs.0) ⊛ ‵ ftrue) ⊛ ‵ ftrue) ∷ raw (fact 𝓤 _) ∷ ‵ ftrue ∷ [])
    ∵ keep ! (0 ∷ []) $ split ! $ split ! $ go.enters [] refl $ alloc_all ! (λ l. pass_all ! refl tt $
    sets ! (bin ! (size_word !) (lit ! tt) tt) refl (tt, tt) $
    known ! (IsTrue same ↔ (size (layout T) ≡ 0)) (capped_zero (size (layout T))) $
    feq_i ! (List Val) (vbool same ∷ []) (vbool same ∷ []) refl $ nothing_more ! $ move ! (3 ∷ 4 ∷ []) $ join ! $
    returns ! (look_at ! 0 refl) $ free_all ! refl $ keep ! (0 ∷ 1 ∷ 2 ∷ 3 ∷ []) $
    by ! (ends (vbool same) same tt tt)))
