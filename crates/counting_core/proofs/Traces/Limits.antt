-- The limit of a trace, which its model has too, and which its live handles keep without a mark. A clone in flight saw
-- fewer handles than that.
use Rattle.counting_core.proofs.Names.{◌≡◌, ◌≤◌, false, not, ◌&&◌, nat_eq, length, refl, sym, ◌∙◌, ap, subst, arith}
use Rattle.counting_core.proofs.Names.{length-append, true≢false, eqb-false, length-filter, count_by-le-length, IsLimit}
use Rattle.counting_core.proofs.Names.{Step, Answer, Trace, Open, Then, State, limit_of, Model, is_full, IsLegal, state}
use Rattle.counting_core.proofs.Names.{model, has_mark, live_handles, ℕ, ◌<◌, or_parts, Activity, Cloning}
use Rattle.counting_core.proofs.Traces.Deeds.{EachDeed, Deed, clone_bears, raise_bears, drop_ends, lower_ends}
use Rattle.counting_core.proofs.Traces.Deeds.{lower_gives_up, marks, grown, shrunk, clone_reads, raise_loses, next}
use Rattle.counting_core.proofs.Traces.LegalSteps.{each_legal, each_owner}

module _ {V : Type 0} where
  pub legal_limit : (t : Trace V) → IsLegal t → IsLimit (limit_of t)
  legal_limit (Open v n limit) legal = legal
  legal_limit (Then t s a) legal = legal_limit t legal.0

  limit-then : EachDeed V (λ r u s a m. m.limit ≡ r.limit)
  limit-then r u s a m (marks o h) = refl
  limit-then r u s a m _ = refl

  pub model_limit : (t : Trace V) → IsLegal t → (model t).limit ≡ limit_of t
  model_limit = each_legal (λ t. (model t).limit ≡ limit_of t) (λ _ _ _ _. refl) (λ _ _ same. (same, same))
      (λ t s a _ h same. limit-then (model t) (state t) s a _ h.deed ∙ same)

  abbrev IsWithinLimit : Model V → Type 0
  IsWithinLimit m = m.mark ≡ false → length m.live ≤ m.limit

  within-grown : (m : Model V) → is_full m ≡ false → IsWithinLimit m → IsWithinLimit (grown m)
  within-grown m room within unmarked =
      let other : nat_eq (length m.live) m.limit ≡ false = sym (ap (λ b. not b && nat_eq (length m.live) m.limit)
      unmarked) ∙ room in
      let below : length m.live ≡ m.limit → ⊥ = eqb-false (length m.live) m.limit other in
      let so_far : length m.live ≤ m.limit = within unmarked in
      rw length-append (omega arith)

  within-shrunk : (m : Model V) (h : _) → IsWithinLimit m → IsWithinLimit (shrunk m h)
  within-shrunk m h within unmarked =
      let so_far : length m.live ≤ m.limit = within unmarked in
      omega (arith, length-filter (λ k. not (nat_eq h k)) m.live, count_by-le-length (λ k. not (nat_eq h k)) m.live)

  within-then : EachDeed V (λ r u s a m. IsWithinLimit r → IsWithinLimit m)
  within-then r u s a m (clone_bears o h mark room) within = within-grown r room within
  within-then r u s a m (raise_bears o settles room) within = within-grown r room within
  within-then r u s a m (drop_ends o h mark) within = within-shrunk r h within
  within-then r u s a m (lower_ends o h e more) within = within-shrunk r h within
  within-then r u s a m (lower_gives_up o h e last) within = within-shrunk r h within
  within-then r u s a m (marks o h) within = λ unmarked. absurd (true≢false unmarked)
  within-then r u s a m _ within = within

  within_limit : (t : Trace V) → IsLegal t → IsWithinLimit (model t)
  within_limit = each_legal (λ t. IsWithinLimit (model t)) (λ _ _ _ is _. is.0) (λ _ _ within. (within, within))
      (λ t s a _ h. within-then (model t) (state t) s a _ h.deed)

  -- without a mark no more handles live than the limit
  pub no_count_passes_limit : (t : Trace V) → IsLegal t → has_mark t ≡ false → length (live_handles t)
      ≤ limit_of t
  no_count_passes_limit t legal unmarked =
      subst (λ n. length (live_handles t) ≤ n) (model_limit t legal) (within_limit t legal unmarked)

abbrev HasRoom : ℕ → Activity → Type 0
HasRoom limit (Cloning h seen) = seen < limit
HasRoom limit activity = Unit {0}

abbrev AllHaveRoom : ℕ → State → Type 0
AllHaveRoom limit u = (q : ℕ) → HasRoom limit (u.activity q)

module _ {V : Type 0} where
  pub room-read : (t : Trace V) → IsLegal t → (model t).mark ≡ false → is_full (model t) ≡ false
      → length (model t).live < limit_of t
  room-read t legal unmarked room =
      let other : nat_eq (length (model t).live) (model t).limit ≡ false =
      sym (ap (λ b. not b && nat_eq (length (model t).live) (model t).limit) unmarked) ∙ room in
      let below : length (model t).live ≡ (model t).limit → ⊥ = eqb-false _ _ other in
      let most : length (model t).live ≤ limit_of t = no_count_passes_limit t legal unmarked in
      let same : (model t).limit ≡ limit_of t = model_limit t legal in
      omega arith

  room-next : (t : Trace V) → IsLegal t → {s : Step V} {a : Answer V} {m : Model V}
      (d : Deed (model t) (state t) s a m) → HasRoom (limit_of t) (next (model t) (state t) d)
  room-next t legal (clone_reads o h mark room) = room-read t legal mark room
  room-next t legal (raise_loses o lost) =
      room-read t legal (or_parts _ _ lost).0 (or_parts _ _ (or_parts _ _ lost).1).0
  room-next t legal _ = tt

  all_have_room : (t : Trace V) → IsLegal t → AllHaveRoom (limit_of t) (state t)
  all_have_room = each_legal (λ t. AllHaveRoom (limit_of t) (state t)) (λ _ _ _ _ _. tt) (λ _ _ was. (was, was))
      (λ t s a legal h was. each_owner t s a h (λ _ c. HasRoom (limit_of t) c) (room-next t legal.0 h.deed)
      (λ q _. was q))

  pub room_seen : (t : Trace V) → IsLegal t → (o h seen : ℕ) → (state t).activity o ≡ Cloning h seen
      → seen < limit_of t
  room_seen t legal o h seen e = subst (HasRoom (limit_of t)) e (all_have_room t legal o)
