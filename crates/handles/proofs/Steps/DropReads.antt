-- The read by which a handle ends, and what every step by a handle's holder has. Assumes `Logic`.
use Rattle.handles.proofs.Steps.Turns.{turns_drop_read}
use Rattle.handles.proofs.Steps.Stepped.{Turns, stepped, unknown}
use Rattle.handles.proofs.Steps.Shared.{◌≡◌, ℕ, ◌^◌, ◌<◌, Bool, true, false, [], ◌∷◌, ap, if◌then◌else◌, Ura, SProp}
use Rattle.handles.proofs.Steps.Shared.{ent, never, Share, Fml, fsep, flft, Logic, sem, ‵, ◌$◌, ◌∵◌, !, qed, by, move}
use Rattle.handles.proofs.Steps.Shared.{keep, drop, fsplit, fsplit3, fpick, use1, part_in, nothing_more, nothing}
use Rattle.handles.proofs.Steps.Shared.{StandsWithin, unit_of_count, unshared, marked, entitled, stake, SharedBlock}
use Rattle.handles.proofs.Steps.Shared.{shared, unmarked, beside, granted, no_token, lives_on, leaves, Lands, Asks}
use Rattle.handles.proofs.Steps.Shared.{full_share, title, grants, pass, passed, and_logged, by_own, ftrue, WordStep}
use Rattle.handles.proofs.Steps.Shared.{word_by, refl, List, Entry, id⊢, reads_for_drop, to_lower, right_by_drop_read}
use Rattle.handles.proofs.Steps.Shared.{finds, is_marked_word, fjoin}

-- what the holder of a handle has: a share e of the token, to which it is entitled as y says
abbrev pub a_stake : SharedBlock → Bool → Share → Fml
a_stake s y e = fsep (entitled s.names e y) (flft (shared s) e)

-- and the pass of the handle
abbrev pub whole_pass : SharedBlock → Fml
whole_pass s = pass s.id.living s.own full_share

-- what the read leaves
abbrev pub after_drop_read : SharedBlock → ℕ → List Entry → Fml
after_drop_read s w log = grants s (right_by_drop_read w) log

module _ {M : Type 1} {𝓤 : Ura M} (𝓛 : Logic 𝓤) (s : SharedBlock) where
  no_stake : ent 𝓤 (sem 𝓛 (fsep (unshared s.names) (title s.names))) (never 𝓤)
  no_stake = qed 𝓛 (‵ (unshared s.names) ∷ ‵ (title s.names) ∷ []) ∵ move ! (1 ∷ []) $
      fpick ! (λ e. fsplit ! $ keep ! (1 ∷ 2 ∷ []) $ by ! (no_token 𝓛 (shared s) e (never 𝓤)))

  -- an unmarked block's handle has one part
  not_yet_marked : (e : Share) (n : ℕ) (X : SProp 𝓤) → ent 𝓤 (sem 𝓛 (fsep (beside s false n)
      (a_stake s false e))) X
  not_yet_marked e n X = qed 𝓛 (‵ (beside s false n) ∷ ‵ (marked s.names) ∷ ‵ (flft (shared s) e)
      ∷ []) ∵ fsplit3 ! $ keep ! (2 ∷ 3 ∷ []) $ by ! (no_token 𝓛 (unmarked s) full_share X)

  module _ (bare : ℕ → List Entry → Fml) where
    -- what a step that lets the word be does while the block lives, if its maker has X
    abbrev pub Held : Fml → ℕ → Bool → ℕ → ℕ → Type 1
    Held X j mark w n = (log : List Entry) → StandsWithin s.limit w mark n → Lands 𝓛 s w log mark n X (bare w log) j

    -- by the unit that the holder of an unmarked block's handle has
    by_part : (j : ℕ) (mark y : Bool) (e : Share) (w n : ℕ) → Held (unit_of_count s.names) j false w n
        → Held (a_stake s y e) j true w n → Held (a_stake s y e) j mark w n
    by_part j true y e w n one any log holds = any log holds
    by_part j false true e w n one any log holds = qed 𝓛 (finds s w log false n (a_stake s true e)) ∵
        move ! (2 ∷ []) $ fsplit ! $ fpick ! (λ c. drop ! $
        use1 𝓛 (‵ (unit_of_count s.names)) (part_in 64 𝓛 s.names.shared e c) $ move ! (1 ∷ 2 ∷ 0 ∷ []) $
        by ! (one log holds))
    by_part j false false e w n one any log holds = qed 𝓛 (finds s w log false n (a_stake s false e)) ∵
        keep ! (1 ∷ 2 ∷ []) $ by ! (not_yet_marked e n _)

    -- the holder of a handle may ask for it: by its unit on an unmarked block, and by any share on a marked one
    pub held_step : (what : WordStep) → ((w : ℕ) → w < 2 ^ 64 → word_by what w ≡ w)
        → (after Also : ℕ → List Entry → Fml)
        → Turns 𝓛 s [] (by_own s what) (whole_pass s) Also
        → ((w : ℕ) (log : List Entry) → ent 𝓤 (sem 𝓛 (fsep (bare w log) (Also w log))) (sem 𝓛 (after w log)))
        → ((j w n : ℕ) → Held (unit_of_count s.names) j false w n)
        → ((j : ℕ) (y : Bool) (e : Share) (w n : ℕ) → Held (a_stake s y e) j true w n)
        → Asks 𝓛 s (λ w. w) (fsep ftrue (stake s.names s.id s.own)) (and_logged s [] (by_own s what) after)
    held_step what is after Also turns joined one any = stepped 𝓛 s [] ftrue (unknown 𝓛 s) (by_own s what) (λ w. w) is
        bare after (title s.names) (whole_pass s) Also turns joined (λ j mark w n log small holds.
        qed 𝓛 (finds s w log mark n (title s.names)) ∵ move ! (2 ∷ []) $
        fpick ! (λ e. fsplit ! $ fpick ! (λ y. fjoin ! $ move ! (1 ∷ 2 ∷ 0 ∷ []) $
        by ! (by_part j mark y e w n (one j w n) (any j y e w n) log holds)))) no_stake

  -- the read by which a handle ends
  pub drop_reads : Asks 𝓛 s (λ w. w) (fsep ftrue (stake s.names s.id s.own))
      (and_logged s [] (by_own s reads_for_drop) (after_drop_read s))
  drop_reads = held_step bare reads_for_drop (λ w _. refl) (after_drop_read s)
      (λ w log. passed s (right_by_drop_read w) log) (turns_drop_read 𝓛 s []) (λ _ _. id⊢ 𝓤 _) one any
    where
      bare : ℕ → List Entry → Fml
      bare w log = granted s (right_by_drop_read w) log

      left : (w : ℕ) (mark : Bool) → is_marked_word w ≡ mark
          → right_by_drop_read w ≡ (if mark then nothing else to_lower)
      left w mark e = ap (λ z. if z then nothing else to_lower) e

      one : (j w n : ℕ) → Held bare (unit_of_count s.names) j false w n
      one j w n log holds = qed 𝓛 (finds s w log false n (unit_of_count s.names)) ∵
          lives_on 𝓛 s ! false w n log holds $ move ! (1 ∷ 0 ∷ []) $
          by ! (leaves 𝓛 s to_lower (right_by_drop_read w) log j (left w false holds.0.same_mark))

      any : (j : ℕ) (y : Bool) (e : Share) (w n : ℕ) → Held bare (a_stake s y e) j true w n
      any j y e w n log holds = qed 𝓛 (finds s w log true n (a_stake s y e)) ∵
          lives_on 𝓛 s ! true w n log holds $ keep ! (0 ∷ []) $ nothing_more ! $
          by ! (leaves 𝓛 s nothing (right_by_drop_read w) log j (left w true holds.0.same_mark))
