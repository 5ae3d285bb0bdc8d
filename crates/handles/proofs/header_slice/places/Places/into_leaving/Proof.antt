-- `into_leaving` makes of the places those that no item has left yet.
use Rattle.handles.proofs.Places.{◌≡◌, ℕ, ◌^◌, ◌<◌, [], ◌∷◌, refl, lit<, arith, ftrue, flft, ‵, raw, ◌⊛◌, ◌$◌, ◌∵◌, ! }
use Rattle.handles.proofs.Places.{qed, by, move, keep, split, fsplit, fjoin, use0, use1, lit, no_more, and_then}
use Rattle.handles.proofs.Places.{returns, alloc_all, pass_all, free_all, look_at, get, sets, agg, whole, fact, no}
use Rattle.handles.proofs.Places.{RattleType, plain, Ptr, nothing_more, param, param_laws, stay_dropped, Goes-blank}
use Rattle.handles.proofs.Places.{LeavingRow, words-Good, FitWords, leaving_val, leaving_words, leaving_made, PlacesRow}
use Rattle.handles.proofs.Places.{places_val, leaving_own, none_left, at_type, walks, field_in, fsep, known}
use Rattle.core.proofs.atomic.Steps.{Ptr-Good}
use Rattle.handles.proofs.header_slice.places.Places.TheLaws.{lowers}
use Rattle.handles.specs.contracts.header_slice.places.Places.into_leaving.{ended, clauses}
use Rattle.handles.specs.contracts.header_slice.places.Places.into_leaving.Key.{name as #self}
use Rattle.handles.proofs.header_slice.places.Places.into_leaving.Statement.{statement}
use Rattle.handles.proofs.header_slice.places.Places.into_leaving.Code as code

pub into_leaving_spec : {M : Type 1} → statement M
into_leaving_spec 𝓤 𝓛 𝓜 𝓡 wired T L =
    let R : RattleType = param 0 T in let self = plain (λ _. PlacesRow R) in
    walks (at_type T) code.function 𝓛 𝓜 𝓡 (ended T) (stay_dropped self no, tt) (clauses T 𝓛 𝓜.mem 𝓡.returns)
    (Goes-blank 𝓛 1 self no (λ κs x f. tt), tt) #self (code.unfolded 𝓤 𝓛.H 𝓜 𝓡 wired (T, tt))
    (λ κs. ((λ s. places_val s.first s.filled s.room ∷ []), tt))
    (λ κs. ((lowers R (param_laws 0 T L)).val_is, tt)) (λ κs qs bounds a gh are go ends.
    let me = a.0 in let p : Ptr = me.first in let filled : ℕ = me.filled in let room : ℕ = me.room in
    let filled_fits : filled < 2 ^ 64 = are.0.0.1.1.1.0.1 in let room_fits : room < 2 ^ 64 = are.0.0.1.1.1.1.0.1 in
    let new : (LeavingRow R).Denot = record {
      first = p;
      taken = 0;
      filled = filled;
      room = room;
      items = me.items;
      within = (omega (arith, me.within.0), me.within.1);
    } in let fit : FitWords (0 ∷ filled ∷ room ∷ []) = (lit< tt, (filled_fits, (room_fits, tt))) in
    qed 𝓛 (((‵ (flft κs.0 qs.0) ⊛ ‵ ftrue) ⊛ ‵ (fsep ((PlacesRow R).own_val me (places_val p filled room ∷ [])) ftrue))
    ∷ raw (fact 𝓤 _) ∷ ‵ ftrue ∷ []) ∵ split ! $ move ! (1 ∷ []) $ fsplit ! $ fsplit ! $ keep ! (1 ∷ 3 ∷ []) $
    -- [what the places own; the tokens]
    use1 𝓛 (‵ (leaving_own R p 0 filled room me.items)) (none_left R 𝓛 p filled room me.items) $
    go.enters (places_val p filled room ∷ []) refl $
    alloc_all ! (λ l. pass_all ! refl (words-Good p (filled ∷ room ∷ []) fit.1, tt) $
    sets ! (field_in ! 0 refl refl (whole !)) refl (Ptr-Good p) $
    sets ! (field_in ! 1 refl refl (whole !)) refl (tt, record { fits = filled_fits }) $
    sets ! (field_in ! 2 refl refl (whole !)) refl (tt, record { fits = room_fits }) $
    sets ! (agg ! (and_then ! (get ! refl) (and_then ! (lit ! tt) (and_then ! (get ! refl) (and_then ! (get ! refl)
    (no_more !)))))) refl (words-Good p (0 ∷ filled ∷ room ∷ []) fit) $
    use0 𝓛 (‵ (leaving_words R p 0 filled room)) (leaving_made R 𝓛 p 0 filled room fit) $ fjoin ! $
    known ! (me.items ≡ me.items) refl $ nothing_more ! $ nothing_more ! $ fjoin ! $
    returns ! (look_at ! 0 refl) $ free_all ! refl $ keep ! (3 ∷ 0 ∷ 2 ∷ 1 ∷ []) $
    by ! (ends (leaving_val p 0 filled room) new (tt, tt) (tt, tt))))
