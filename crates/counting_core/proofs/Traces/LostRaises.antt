-- Why raises that lose are few. A clone in flight is stale if the live handles are no longer as many as it saw. A
-- raise that loses makes one clone fewer stale, and a birth or an end at most those of the other owners.
use Rattle.counting_core.proofs.Names.{◌≡◌, ℕ, ◌+◌, ◌-◌, ◌*◌, ◌<◌, ◌≤◌, Bool, true, false, not, if◌then◌else◌, nat_eq}
use Rattle.counting_core.proofs.Names.{length, refl, sym, ◌∙◌, ap, arith, true≢false, ltb-true, mul-add, and_parts}
use Rattle.counting_core.proofs.Names.{or_parts, Activity, Cloning, Step, Answer, Pending, Trace, Then, State, owner_of}
use Rattle.counting_core.proofs.Names.{permitted_by, IsLegal, state, model, is_lost_raise, is_change, how_many}
use Rattle.counting_core.proofs.Names.{number_below, Model}
use Rattle.counting_core.proofs.Traces.Deeds.{Deed, next, owners-kept, EachDeed, clone_reads, clone_bears, raise_loses}
use Rattle.counting_core.proofs.Traces.Deeds.{raise_bears, drop_ends, lower_ends, lower_gives_up}
use Rattle.counting_core.proofs.Traces.LegalSteps.{Happens, each_legal, each_owner}
use Rattle.counting_core.proofs.Traces.HandleLists.{nat_eq-same}
use Rattle.counting_core.proofs.Traces.Activities.{raising}
use Rattle.counting_core.proofs.Traces.NumberBelow.{number-le, number-less, number-none, number-all}

-- whether a clone in flight saw another number of live handles than there are now
abbrev stale_by : ℕ → Activity → Bool
stale_by live (Cloning h seen) = not (nat_eq live seen)
stale_by live activity = false

module _ {V : Type 0} where
  abbrev stale : Trace V → ℕ → Bool
  stale t q = stale_by (length (model t).live) ((state t).activity q)

  abbrev IsBounded : Trace V → Type 0
  IsBounded t = how_many is_lost_raise t + number_below (stale t) (state t).owners ≤ ((state t).owners - 1)
      * how_many is_change t

  -- only a birth and an end change the number of live handles
  live-kept : EachDeed V (λ r u s a m. is_change a s ≡ false → length m.live ≡ length r.live)
  live-kept r u s a m (clone_bears o h _ _) quiet = absurd (true≢false quiet)
  live-kept r u s a m (raise_bears o _ _) quiet = absurd (true≢false quiet)
  live-kept r u s a m (drop_ends o h _) quiet = absurd (true≢false quiet)
  live-kept r u s a m (lower_ends o h _ _) quiet = absurd (true≢false quiet)
  live-kept r u s a m (lower_gives_up o h _ _) quiet = absurd (true≢false quiet)
  live-kept r u s a m _ quiet = refl

  -- after a step its own owner has no clone that is stale: it has just read the word, or has none in flight
  fresh : (r : Model V) (u : State) {s : Step V} {a : Answer V} {m : Model V} (d : Deed r u s a m)
      → stale_by (length m.live) (next r u d) ≡ false
  fresh r u (clone_reads o h _ _) = ap not (nat_eq-same (length r.live))
  fresh r u (raise_loses o _) = ap not (nat_eq-same (length r.live))
  fresh r u _ = refl

  -- the clone of a raise that loses was stale
  was-stale : EachDeed V (λ r u s a m. permitted_by u (u.activity (owner_of s)) s ≡ true
      → is_lost_raise a s ≡ true → stale_by (length r.live) (u.activity (owner_of s)) ≡ true)
  was-stale r u s a m (raise_loses o lost) may e =
      ap (stale_by (length r.live)) (raising V u o _ may) ∙ ap not (or_parts _ _ (or_parts _ _ lost).1).1
  was-stale r u s a m _ may e = absurd (true≢false (sym e))

  -- a birth and an end are no raise that loses
  change-settles : (s : Step V) (a : Answer V) → is_change a s ≡ true → is_lost_raise a s ≡ false
  change-settles s Pending e = absurd (true≢false (sym e))
  change-settles s a e = refl

  -- each step that takes effect keeps the bound
  bounded-then : (t : Trace V) (s : Step V) (a : Answer V) → Happens t s a → IsBounded t → IsBounded (Then t s a)
  bounded-then t s a happened so_far = rw (owners-kept (length (model t).live) (state t) s a) (by_answer (is_change a s)
      refl (is_lost_raise a s) refl) where
        n : ℕ
        n = (state t).owners

        within : owner_of s < n
        within = ltb-true (owner_of s) n (and_parts _ _ happened.permitted).0

        own : stale (Then t s a) (owner_of s) ≡ false
        own = each_owner t s a happened
            (λ q c. nat_eq (owner_of s) q ≡ true → stale_by (length (model (Then t s a)).live) c ≡ false)
            (λ _. fresh (model t) (state t) happened.deed) (λ q other e. absurd (true≢false (sym e ∙ other)))
            (owner_of s) (nat_eq-same (owner_of s))

        -- the others are stale as before, if no handle was born or ended
        fewer : is_change a s ≡ false → (q : ℕ) → stale (Then t s a) q ≡ true → stale t q ≡ true
        fewer quiet = each_owner t s a happened
            (λ q c. stale_by (length (model (Then t s a)).live) c ≡ true → stale t q ≡ true)
            (λ e. absurd (true≢false (sym e ∙ fresh (model t) (state t) happened.deed)))
            (λ q _ e. ap (λ n. stale_by n ((state t).activity q))
            (sym (live-kept (model t) (state t) s a _ happened.deed quiet)) ∙ e)

        by_answer : (c : Bool) → is_change a s ≡ c → (l : Bool) → is_lost_raise a s ≡ l
            → ((if l then 1 else 0) + how_many is_lost_raise t) + number_below (stale (Then t s a)) n ≤ (n - 1)
            * ((if c then 1 else 0) + how_many is_change t)
        by_answer true changed true lost = absurd (true≢false (sym lost ∙ change-settles s a changed))
        by_answer true changed false lost =
            let few : number_below (stale (Then t s a)) n + 1 ≤ number_below (λ q. true)
            n = number-less (stale (Then t s a)) (λ q. true) (λ q e. refl) (owner_of s) own n within in
            let all : number_below (λ q. true) n ≡ n = number-all n in
            let more : (n - 1) * (1 + how_many is_change t) ≡ (n - 1) * 1 + (n - 1)
            * how_many is_change t = mul-add (n - 1) 1 (how_many is_change t) in
            omega arith
        by_answer false changed true lost =
            let few : number_below (stale (Then t s a)) n + 1 ≤ number_below (stale t) n =
            rw (was-stale (model t) (state t) s a _ happened.deed happened.by_activity lost)
            at (number-less (stale (Then t s a)) (stale t) (fewer changed) (owner_of s) own n within) in
            omega arith
        by_answer false changed false lost =
            let few : number_below (stale (Then t s a)) n ≤ number_below (stale t) n = number-le (stale (Then t s a))
            (stale t) (fewer changed) n in
            omega arith

  -- a raise loses only to a birth or an end of another owner's
  bounded : (t : Trace V) → IsLegal t → IsBounded t
  bounded = each_legal IsBounded
      (λ _ n _ _. let none : number_below (λ q. false) n ≡ 0 = number-none n in omega arith)
      (λ t s so_far. (omega arith, omega arith)) (λ t s a _. bounded-then t s a)

  -- so raises that lose are few
  pub lost_raises_are_bounded : (t : Trace V) → IsLegal t
      → how_many is_lost_raise t ≤ ((state t).owners - 1) * how_many is_change t
  lost_raises_are_bounded t legal = let all : IsBounded t = bounded t legal in omega arith
