-- The live handles of a trace's model: none twice, each born, and the ones that the trace lets live.
use Rattle.counting_core.proofs.Names.{length, ◌≡◌, ℕ, ◌+◌, ◌<◌, Bool, true, false, not, nat_eq, [], count_by, refl}
use Rattle.counting_core.proofs.Names.{sym, ◌∙◌, ap, subst, arith, lt_irrefl, true≢false, if◌then◌else◌}
use Rattle.counting_core.proofs.Names.{false_from_ne_true, Activity, Dropping, Trace, HandleState, unborn, newborn}
use Rattle.counting_core.proofs.Names.{State, after, handle_in, ended, put, Model, IsLegal, state, model, ap₂, List}
use Rattle.counting_core.proofs.Names.{without}
use Rattle.counting_core.proofs.Traces.Places.{put-all}
use Rattle.counting_core.proofs.Traces.HandleLists.{one_if, times, has, nat_eq-same, in-list, times-push, times-without}
use Rattle.counting_core.proofs.Traces.HandleLists.{length-without}
use Rattle.counting_core.proofs.Traces.Deeds.{EachDeed, clone_bears, raise_bears, drop_ends, lower_ends, lower_gives_up}
use Rattle.counting_core.proofs.Traces.Deeds.{marks, finds_alone, writes, ends_write, becomes_sole, shares, lends}
use Rattle.counting_core.proofs.Traces.Deeds.{returns, gives, grown, shrunk}
use Rattle.counting_core.proofs.Traces.LegalSteps.{each_legal}

module _ {V : Type 0} where
  -- Each handle that lives stands once in the model's list, and was born.
  pub record IsCounted (hs : ℕ → HandleState) (m : Model V) : Type 0 where
    pub once : (h : ℕ) → times h m.live ≡ one_if (hs h).lives
    pub below : (h : ℕ) → (hs h).lives ≡ true → h < m.births

  module _ (hs : ℕ → HandleState) (m : Model V) (c : IsCounted hs m) where
    -- so it is in the list, which is one shorter without it
    pub live-in : (h : ℕ) → has h m.live ≡ (hs h).lives
    live-in h = in-list h m.live ∙ ap (λ n. not (nat_eq n 0)) (c.once h) ∙ by (hs h).lives where
      by : (b : Bool) → not (nat_eq (one_if b) 0) ≡ b
      by true = refl
      by false = refl

    pub one-fewer : (h : ℕ) → (hs h).lives ≡ true → length (without h m.live) + 1 ≡ length m.live
    one-fewer h lives = ap (λ n. length (without h m.live) + n) (sym (c.once h ∙ ap one_if lives))
        ∙ length-without h m.live

    -- the next handle to be born does not live yet
    pub next-dead : (hs m.births).lives ≡ false
    next-dead = false_from_ne_true _ (λ e. lt_irrefl m.births (c.below m.births e))

    counted-born : (o : ℕ) → IsCounted (put hs m.births (newborn o)) (grown m)
    counted-born o = record {
      once = λ h. times-push h m.births m.live ∙ put-all hs m.births (newborn o)
          (λ h k. times h m.live + one_if (nat_eq m.births h) ≡ one_if k.lives)
          (ap₂ (λ n b. n + one_if b) (c.once m.births ∙ ap one_if next-dead) (nat_eq-same m.births))
          (λ h other. ap₂ (λ n b. n + one_if b) (c.once h) other ∙ omega arith) h;
      below = put-all hs m.births (newborn o) (λ h k. k.lives ≡ true → h < m.births + 1) (λ _. omega arith)
          (λ h _ e. let lt : h < m.births = c.below h e in omega arith);
    }

    -- a change of a handle, and of the list, that lives no more often
    changed : (h : ℕ) (k : HandleState) (live : List ℕ) → times h live ≡ one_if k.lives
        → ((j : ℕ) → nat_eq h j ≡ false → times j live ≡ times j m.live) → (k.lives ≡ true → (hs h).lives ≡ true)
        → IsCounted (put hs h k) (record m { live = live })
    changed h k live here others lived = record {
      once = put-all hs h k (λ j x. times j live ≡ one_if x.lives) here (λ j other. others j other ∙ c.once j);
      below = put-all hs h k (λ j x. x.lives ≡ true → j < m.births) (λ e. c.below h (lived e)) (λ j _. c.below j);
    }

    counted-ended : (h : ℕ) → IsCounted (put hs h (record (hs h) { lives = false })) (shrunk m h)
    counted-ended h = changed h _ (without h m.live)
        (times-without h h m.live ∙ ap (λ b. if b then 0 else times h m.live) (nat_eq-same h))
        (λ j other. times-without j h m.live ∙ ap (λ b. if b then 0 else times j m.live) other)
        (λ e. absurd (true≢false (sym e)))

    -- a change of a handle that lives as before
    kept : (h : ℕ) (s : HandleState) → s.lives ≡ (hs h).lives → IsCounted (put hs h s) m
    kept h s e = changed h s m.live (c.once h ∙ ap one_if (sym e)) (λ _ _. refl) (λ lives. sym e ∙ lives)

  counted-lowered : (r : Model V) (u : State) (o h : ℕ) → u.activity o ≡ Dropping h → IsCounted u.handle r
      → IsCounted (ended u (handle_in (u.activity o))).handle (shrunk r h)
  counted-lowered r u o h e c =
      subst (λ (a : Activity). IsCounted (ended u (handle_in a)).handle (shrunk r h)) (sym e)
      (counted-ended u.handle r c h)

  counted-then : EachDeed V (λ r u s a m. IsCounted u.handle r → (sees : ℕ)
      → IsCounted (after sees u s a).handle m)
  counted-then r u s a m (clone_bears o h mark room) c sees = counted-born u.handle r c o
  counted-then r u s a m (raise_bears o settles room) c sees = counted-born u.handle r c o
  counted-then r u s a m (drop_ends o h mark) c sees = counted-ended u.handle r c h
  counted-then r u s a m (lower_ends o h e more) c sees = counted-lowered r u o h e c
  counted-then r u s a m (lower_gives_up o h e last) c sees = counted-lowered r u o h e c
  counted-then r u s a m (finds_alone o h only) c sees = kept u.handle m c h _ refl
  counted-then r u s a m (ends_write o h) c sees = kept u.handle m c h _ refl
  counted-then r u s a m (becomes_sole o h only) c sees = kept u.handle m c h _ refl
  counted-then r u s a m (shares o h) c sees = kept u.handle m c h _ refl
  counted-then r u s a m (lends o h to) c sees = kept u.handle m c h _ refl
  counted-then r u s a m (returns o h) c sees = kept u.handle m c h _ refl
  counted-then r u s a m (gives o h to) c sees = kept u.handle m c h _ refl
  counted-then r u s a m (marks o h) c sees = record { once = c.once; below = c.below }
  counted-then r u s a m (writes o h v) c sees = record { once = c.once; below = c.below }
  counted-then r u s a m _ c sees = c

  pub counted : (t : Trace V) → IsLegal t → IsCounted (state t).handle (model t)
  counted = each_legal (λ t. IsCounted (state t).handle (model t))
      (λ v n limit _. counted-born (λ h. unborn)
      (record { value = v; live = []; mark = false; births = 0; limit = limit })
      (record { once = λ h. refl; below = λ h e. absurd (true≢false (sym e)) }) 0)
      (λ _ _ was. (was, was))
      (λ t s a _ h was. counted-then (model t) (state t) s a _ h.deed was (length (model t).live))

  -- the model's live handles are those that the trace lets live, each once
  pub live_handles_live : (t : Trace V) → IsLegal t → (h : ℕ)
      → count_by (nat_eq h) (model t).live ≡ (if ((state t).handle h).lives then 1 else 0)
  live_handles_live t legal = (counted t legal).once
