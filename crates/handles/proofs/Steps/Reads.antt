-- A read of the word through a `&` to a handle, and what every step through a `&` leaves. Assumes `Logic`.
use Rattle.counting_word.specs.WordSteps as step
use Rattle.handles.proofs.Steps.Stepped.{Knows, Turns, stepped, unknown}
use Rattle.handles.proofs.Steps.Shared.{Entry, List, fsplit, fsplit3, done, unshared, ◌≡◌, ℕ, ◌^◌, ◌<◌, true, false}
use Rattle.handles.proofs.Steps.Shared.{[], ◌∷◌, ◌∙◌, ap, if◌then◌else◌, Ura, ent, never, Share, Fml, fsep, flft}
use Rattle.handles.proofs.Steps.Shared.{Logic, sem, ‵, ◌$◌, ◌∵◌, !, qed, by, move, fjoin, fpair, ffact, use1, use2}
use Rattle.handles.proofs.Steps.Shared.{nothing_more, nothing, a_handle, right_by_read, StandsWithin, title}
use Rattle.handles.proofs.Steps.Shared.{SharedBlock, shared, rule, granted, grants, passed, pass, Bool, Entails}
use Rattle.handles.proofs.Steps.Shared.{no_token, lives_on, regranted, makes_one, Lands, Asks, by_own, WordStep}
use Rattle.handles.proofs.Steps.Shared.{word_by, and_logged, refl, ftrue, IsWithin, Right, fact, id⊢, WhileAlive}
use Rattle.handles.proofs.Steps.Shared.{finds, is_marked_word}
use Rattle.handles.proofs.Steps.Asking as asking
use Rattle.handles.proofs.Steps.Turns.{turns_read, turns_none}

module _ (s : SharedBlock) (q : Share) where
  -- its maker has a share of the token, and of the pass of a handle
  abbrev pub bare_share : Fml
  bare_share = flft (shared s) q

  -- a share of the pass of the handle
  abbrev pub own_pass : Fml
  own_pass = pass s.id.living s.own q

  -- a share of the token and of the pass
  abbrev pub a_share : Fml
  a_share = fsep bare_share own_pass

  -- the share comes back, with what is reported of the word w and with the right r
  abbrev pub bare_reported : ℕ → Right → List Entry → Fml
  bare_reported w r log = fsep bare_share (fsep (fact (IsWithin w s.limit)) (granted s r log))

  -- the same, with the passes
  abbrev pub reported : ℕ → Right → List Entry → Fml
  reported w r log = fsep a_share (fsep (fact (IsWithin w s.limit)) (grants s r log))

  -- what a read leaves
  abbrev pub after_read : ℕ → List Entry → Fml
  after_read w log = reported w (right_by_read w) log

by_mark : (w : ℕ) (mark : Bool) → is_marked_word w ≡ mark → right_by_read w ≡ (if mark then a_handle else nothing)
by_mark w mark e = ap (λ y. if y then a_handle else nothing) e

module _ {M : Type 1} {𝓤 : Ura M} (𝓛 : Logic 𝓤) (s : SharedBlock) (q : Share) where
  -- nobody has a share of the token of a block that is over
  pub no_share : ent 𝓤 (sem 𝓛 (fsep (unshared s.names) (bare_share s q))) (never 𝓤)
  no_share = qed 𝓛 (‵ (unshared s.names) ∷ ‵ (bare_share s q) ∷ []) ∵ move ! (1 ∷ 0 ∷ []) $
      by ! (no_token 𝓛 (shared s) q (never 𝓤))

  module _ (log : List Entry) where
    -- the invariant stands again, and the share and the right r, as r', are left
    pub shut : (r r' : Right) → r' ≡ r → (j w : ℕ) → IsWithin w s.limit
        → ent 𝓤 (sem 𝓛 (fsep (granted s r log) (fsep (rule s) (bare_share s q)))) (asking.Ending 𝓛 (rule s)
        (bare_reported s q w r' log) j)
    shut r r' e j w within = qed 𝓛 (‵ (granted s r log) ∷ ‵ (rule s) ∷ ‵ (bare_share s q) ∷ []) ∵
        use1 𝓛 (‵ (granted s r' log)) (regranted 𝓛 s r r' log e) $ ffact ! (IsWithin w s.limit) within $ fjoin ! $
        fpair ! 2 0 $ move ! (1 ∷ 0 ∷ []) $ by ! (asking.closes 𝓛 (rule s) (bare_reported s q w r' log) j)

    -- the word is as it was, and the rest comes by what is read
    pub found : (r : Right) (j : ℕ) (mark : Bool) (w n : ℕ) → r ≡ right_by_read w → StandsWithin s.limit w mark n
        → Lands 𝓛 s w log mark n (bare_share s q) (bare_reported s q w r log) j
    found r j true w n e holds = qed 𝓛 (finds s w log true n (bare_share s q)) ∵
        use2 𝓛 (‵ (fsep (rule s) (title s.names))) (makes_one 𝓛 s w n log holds) $ fsplit ! $ move ! (1 ∷ []) $
        by ! (shut a_handle r (e ∙ by_mark w true holds.0.same_mark) j w holds.1)
    found r j false w n e holds = qed 𝓛 (finds s w log false n (bare_share s q)) ∵
        lives_on 𝓛 s ! false w n log holds $ nothing_more ! $
        by ! (shut nothing r (e ∙ by_mark w false holds.0.same_mark) j w holds.1)

    -- the passes are reported too
    pub reported_passed : (w : ℕ) (r : Right) → Entails 𝓛 (fsep (bare_reported s q w r log)
        (fsep (own_pass s q) (passed s r log))) (reported s q w r log)
    reported_passed w r = qed 𝓛 (‵ (bare_reported s q w r log) ∷ ‵ (fsep (own_pass s q) (passed s r log)) ∷ []) ∵
        fsplit3 ! $ move ! (3 ∷ []) $ fsplit ! $
        -- [the pass; the pass that goes with the right; the share; what is reported; the right]
        fpair ! 2 0 $ fpair ! 3 1 $ fpair ! 2 0 $ fpair ! 1 0 $ done !

  module _ (what : WordStep) (f : ℕ → ℕ) (is : (w : ℕ) → w < 2 ^ 64 → word_by what w ≡ f w) where
    -- a step that leaves its maker the share alone
    pub plain_step : Turns 𝓛 s [] (by_own s what) (own_pass s q) (λ _ _. own_pass s q)
        → WhileAlive 𝓛 s f (bare_share s q) (λ _ _. bare_share s q)
        → Asks 𝓛 s f (fsep ftrue (a_share s q)) (and_logged s [] (by_own s what) (λ _ _. a_share s q))
    plain_step turns steps = stepped 𝓛 s [] ftrue (unknown 𝓛 s) (by_own s what) f is (λ _ _. bare_share s q)
        (λ _ _. a_share s q) (bare_share s q) (own_pass s q) (λ _ _. own_pass s q) turns (λ _ _. id⊢ 𝓤 _) steps no_share

    -- a step that leaves a right, by the word that it found
    pub right_step : (old : List Entry) (Old : Fml) → Knows 𝓛 s old Old → (r : ℕ → Right)
        → Turns 𝓛 s old (by_own s what) (own_pass s q) (λ w log. fsep (own_pass s q) (passed s (r w) log))
        → WhileAlive 𝓛 s f (bare_share s q) (λ w log. bare_reported s q w (r w) log)
        → Asks 𝓛 s f (fsep Old (a_share s q)) (and_logged s old (by_own s what) (λ w log. reported s q w (r w) log))
    right_step old Old known r turns steps = stepped 𝓛 s old Old known (by_own s what) f is
        (λ w log. bare_reported s q w (r w) log) (λ w log. reported s q w (r w) log) (bare_share s q) (own_pass s q)
        (λ w log. fsep (own_pass s q) (passed s (r w) log)) turns (λ w log. reported_passed log w (r w)) steps no_share

  -- a load that only asks
  pub asks : Asks 𝓛 s (λ w. w) (fsep ftrue (a_share s q))
      (and_logged s [] (by_own s step.asks) (λ _ _. a_share s q))
  asks = plain_step step.asks (λ w. w) (λ w _. refl)
      (turns_none 𝓛 s [] q (by_own s step.asks) (λ log there. there) (λ p. refl)) (λ j mark w n log small holds.
      qed 𝓛 (finds s w log mark n (bare_share s q)) ∵ lives_on 𝓛 s ! mark w n log holds $
      by ! (asking.closes 𝓛 (rule s) (bare_share s q) j))

  -- a load that makes a handle if it finds the mark
  pub reads : Asks 𝓛 s (λ w. w) (fsep ftrue (a_share s q)) (and_logged s [] (by_own s step.reads) (after_read s q))
  reads = right_step step.reads (λ w. w) (λ w _. refl) [] ftrue (unknown 𝓛 s) right_by_read (turns_read 𝓛 s [] q)
      (λ j mark w n log small holds. found log (right_by_read w) j mark w n refl holds)
