-- `without_bytes` makes places that hold nothing yet and take no memory, at the address of an empty array.
use Rattle.handles.proofs.Places.{◌≡◌, ℕ, ◌^◌, ◌<◌, Bool, [], ◌∷◌, refl, lit<, arith, w64, Val, vint, ftrue, flft, ‵}
use Rattle.handles.proofs.Places.{raw, ◌⊛◌, ◌$◌, ◌∵◌, !, qed, by, move, keep, drop, split, join, fjoin, use0, rewrite}
use Rattle.handles.proofs.Places.{stop, addr, lit, no_more, and_then, returns, alloc_all, words-Good, pass_all}
use Rattle.handles.proofs.Places.{free_all, look_at, get, sets, agg, fact, yes, RattleType, plain, block_ptr}
use Rattle.handles.proofs.Places.{nothing_more, heard, param, layout, fsep, stay_dropped, Goes-dropped, PlacesRow}
use Rattle.handles.proofs.Places.{places_val, places_made, without_items, right_to_free, ◌*◌, type_size, owns_if, froom}
use Rattle.handles.proofs.Places.{◌⊑◌, usize, uint_Tells, uint_vals, ty_array, from, no_bytes, no_memory, at_type}
use Rattle.handles.proofs.Places.{walks, known}
use Rattle.core.specs.Allocator.{array_of}
use Rattle.handles.specs.contracts.header_slice.places.Places.without_bytes.{ended, clauses}
use Rattle.handles.specs.contracts.header_slice.places.Places.without_bytes.Key.{name as #self}
use Rattle.handles.proofs.header_slice.places.Places.without_bytes.Statement.{statement}
use Rattle.handles.proofs.header_slice.places.Places.without_bytes.Code as code

pub without_bytes_spec : {M : Type 1} → statement M
without_bytes_spec 𝓤 𝓛 𝓜 𝓡 wired T L =
    let R : RattleType = param 0 T in let P : RattleType = PlacesRow R in let number = plain (λ _. usize) in
    walks (at_type T) code.function 𝓛 𝓜 𝓡 (ended T) (stay_dropped number yes, tt) (clauses T 𝓛 𝓜.mem 𝓡.returns)
    (Goes-dropped 𝓛 1 number yes (λ κs x f. refl), tt) #self (code.unfolded 𝓤 𝓛.H 𝓜 𝓡 wired (T, tt))
    (λ κs. (uint_vals w64, tt)) (λ κs. (uint_Tells w64, tt)) (λ κs qs bounds a gh are go ends.
    let room : ℕ = a.0 in let bytes : ℕ = room * type_size R in let small : room < 2 ^ 64 = are.0.1 in
    qed 𝓛 (((‵ (flft κs.0 qs.0) ⊛ ‵ ftrue) ⊛ ‵ (fsep (usize.own_val room (vint w64 room ∷ [])) ftrue))
    ∷ (raw (fact 𝓤 (κs.0 ⊑ T.lives)) ⊛ raw (fact 𝓤 (bytes ≡ 0))) ∷ []) ∵
    move ! (1 ∷ []) $ split ! $ drop ! $ heard ! (bytes ≡ 0) (λ none. split ! $ keep ! (0 ∷ []) $
    let fits : bytes < 2 ^ 63 = omega arith in go.enters (vint w64 room ∷ []) refl $
    alloc_all ! (λ l. pass_all ! refl ((tt, record { fits = small }), tt) $ let b : ℕ = l 2 in
    let v : Val = places_val (block_ptr b 0) 0 room in let made : P.Denot = without_items R (block_ptr b 0) room in
    sets ! (agg ! (no_more !)) refl (tt, tt) $ sets ! (addr ! (from ! (stop !))) refl (tt, tt) $
    sets ! (agg ! (and_then ! (get ! refl) (and_then ! (lit ! tt) (and_then ! (get ! refl) (no_more !)))))
    refl (words-Good (block_ptr b 0) (0 ∷ room ∷ []) (lit< tt, (small, tt))) $
    -- there is nothing to free, and the room comes from nothing
    nothing_more ! $ rewrite ! 0 (λ (x : Bool). ‵ (owns_if x (right_to_free (array_of R room) (block_ptr b 0))))
    (no_bytes bytes none) refl $
    use0 𝓛 (‵ (froom (ty_array (layout T) room) b 0)) (no_memory 𝓛 (layout T) room b 0 none) $
    places_made R ! b 0 room small fits $ known ! (room ≡ room) refl $
    known ! (made.items ≡ []) refl $ join ! $ nothing_more ! $ nothing_more ! $ fjoin ! $
    returns ! (look_at ! 0 refl) $ free_all ! refl $ keep ! (3 ∷ 0 ∷ 2 ∷ 1 ∷ []) $
    by ! (ends v made (tt, tt) (tt, tt)))))
