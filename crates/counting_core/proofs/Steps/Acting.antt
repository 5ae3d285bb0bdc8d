-- What a step makes of a core, where the search does not find it.
use Rattle.counting_core.proofs.Names.{lowered-less, mark_bit, greatest_count, ◌≡◌, ℕ, ◌-◌, ◌%◌, ◌≤◌, ◌<◌, ◌++◌, ◌∷◌}
use Rattle.counting_core.proofs.Names.{[], Bool, true, false, List, length, if◌then◌else◌, get_or, set, refl, sym, ◌∙◌}
use Rattle.counting_core.proofs.Names.{ap, ap₂, subst, length-set, arith, is_one_handle, clone_plan, StaticClone, Idle}
use Rattle.counting_core.proofs.Names.{Cloning, Dropping, Clone, Raise, Lower, Born, Ended, GivenUp, HandleState, ended}
use Rattle.counting_core.proofs.Names.{State, goes_on_to, newborn, handle_in, limit_of, permitted, state, CoreState}
use Rattle.counting_core.proofs.Names.{handle, activity, state_of, Represents, IsReached, IsPermitted, cloned, by_word}
use Rattle.counting_core.proofs.Names.{TakesEffect}
use Rattle.counting_core.proofs.Traces.Activities.{begun}
use Rattle.counting_core.proofs.Traces.InFlight.{all_fit, dropped-lives}
use Rattle.counting_core.proofs.Traces.Places.{put-same}
use Rattle.counting_core.proofs.Traces.Limits.{room_seen, legal_limit}
use Rattle.counting_core.proofs.Traces.LiveCounts.{lower_counts}
use Rattle.counting_core.proofs.Steps.Edits.{born, effect, bears, within, state-owner, state-edit}

module _ {V : Type 0} (f : CoreState V) where
  pub clone_bears : (o h : ℕ) → clone_plan f.word f.limit ≡ StaticClone → IsPermitted f (Clone o h) → {n : ℕ}
      → n ≡ length f.handles → {handles : List HandleState} → handles ≡ f.handles ++ newborn o ∷ []
      → TakesEffect f (Clone o h) (Born n) (record f { handles = handles })
  clone_bears o h plan may {n} number {handles} pushed =
      bears f o f.word (Clone o h) n handles f.owners may refl number pushed refl
      (sym (put-same (activity f) o Idle (begun (state_of f) (Clone o h) may refl).0))
      (ap (λ p. (cloned f p, f.word)) (sym plan)) refl

  -- what the owner of a clone in flight saw is below the greatest count
  pub seen-few : IsReached f → (o h seen : ℕ) → activity f o ≡ Cloning h seen → seen < greatest_count
  seen-few reached o h seen busy =
      let r : Represents f reached.0 = reached.1 in
      let low : seen < limit_of reached.0 = room_seen reached.0 r.legal o h seen
      (ap (λ (u : State). u.activity o) (sym r.same_state) ∙ busy) in
      let most : limit_of reached.0 ≤ greatest_count = (legal_limit reached.0 r.legal).1 in
      omega arith

  pub raise_bears : (o word : ℕ) → (Born (length f.handles), word) ≡ by_word f (Raise o) → IsPermitted f (Raise o)
      → {n : ℕ} → n ≡ length f.handles → {handles : List HandleState} → handles ≡ f.handles ++ newborn o ∷ []
      → TakesEffect f (Raise o) (Born n)
      (record f { word = word; handles = handles; owners = set f.owners o Idle })
  raise_bears o word by may {n} number {handles} pushed =
      bears f o word (Raise o) n handles (set f.owners o Idle) may refl number pushed (length-set f.owners o Idle)
      (ap (λ (u : State). u.activity) (state-owner f o Idle (within f (Raise o) may))) by refl

  -- a lower, whose owner has a drop in flight
  module _ (reached : IsReached f) (o h : ℕ) (busy : activity f o ≡ Dropping h) where
    lower_lives : (handle f h).lives ≡ true
    lower_lives =
        let r : Represents f reached.0 = reached.1 in
        ap (λ (u : State). (u.handle h).lives) r.same_state
        ∙ dropped-lives (state reached.0) (all_fit reached.0 r.legal) o h
        (ap (λ (u : State). u.activity o) (sym r.same_state) ∙ busy)

    pub lower_born : {n : ℕ} → n ≡ length f.handles → h < n
    lower_born all = subst (λ n. h < n) (sym all) (born f h lower_lives)

    pub lower_some : IsPermitted f (Lower o) → 1 ≤ f.word
    lower_some may =
        let r : Represents f reached.0 = reached.1 in
        let some : 1 ≤ f.word % mark_bit = lower_counts f reached.0 r o
        (ap (λ u. permitted {V = V} u (Lower o)) (sym r.same_state) ∙ may) in
        omega arith

    module _ (k new : HandleState) (was : k ≡ get_or f.handles h k) (ends : new ≡ record k { lives = false })
        (may : IsPermitted f (Lower o)) where
      abbrev with_new : CoreState V
      with_new = record f { handles = set f.handles h new }

      abbrev with_lower : CoreState V
      with_lower = record f { word = f.word - 1; handles = set f.handles h new; owners = set f.owners o Idle }

      same : state_of (record with_new { owners = set f.owners o Idle })
          ≡ goes_on_to (ended (state_of f) (handle_in (activity f o))) o Idle
      same =
          state-owner with_new o Idle (within f (Lower o) may)
          ∙ ap (λ u. goes_on_to u o Idle) (state-edit f h (λ s. record s { lives = false }) k new was ends lower_lives)
          ∙ ap (λ c. goes_on_to (ended (state_of f) (handle_in c)) o Idle) (sym busy)

      by : (b : Bool) → is_one_handle f.word ≡ b
          → (if b then GivenUp f.value else Ended, f.word - 1) ≡ by_word f (Lower o)
      by b one = ap₂ (λ b w. (if b then GivenUp f.value else Ended, w)) (sym one)
          (sym (lowered-less f.word (lower_some may)))

      pub lowers : (b : Bool) → is_one_handle f.word ≡ b
          → TakesEffect f (Lower o) (if b then GivenUp f.value else Ended) with_lower
      lowers true one = effect f with_lower (Lower o) (GivenUp f.value) may (by true one) same refl
          (length-set f.handles h new) refl
      lowers false one = effect f with_lower (Lower o) Ended may (by false one) same refl
          (length-set f.handles h new) refl
