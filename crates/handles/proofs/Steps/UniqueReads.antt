-- A read by the holder of a handle that nobody borrows: if it finds 1, that is the only one. Assumes `Logic`.
use Rattle.counting_word.specs.WordSteps as step
use Rattle.handles.proofs.Steps.Shared.{◌≡◌, ◌≢◌, ℕ, Bool, true, false, [], ◌∷◌, refl, ap, ◌∙◌, ne_eqb, if◌then◌else◌}
use Rattle.handles.proofs.Steps.Shared.{dite, ℕ_discrete, Ura, Share, Fml, fsep, Logic, ‵, ◌$◌, ◌∵◌, !, qed, by, move}
use Rattle.handles.proofs.Steps.Shared.{use1, is_one_handle, full_share, is_one_handle-marked, is_one_handle-unmarked}
use Rattle.handles.proofs.Steps.Shared.{a_handle, whole_block, unit_of_count, stake, SharedBlock, granted}
use Rattle.handles.proofs.Steps.Shared.{counted_stake, entitles, lives_on, leaves, Asks, and_logged, by_own, ftrue}
use Rattle.handles.proofs.Steps.Shared.{title, Entry, List, id⊢, right_by_unique_read, finds}
use Rattle.handles.proofs.Steps.Turns.{turns_none}
use Rattle.handles.proofs.Steps.DropReads.{a_stake, whole_pass, held_step, Held}
use Rattle.handles.proofs.Steps.Lowers.{last_one}

abbrev bare_unique_read : SharedBlock → ℕ → List Entry → Fml
bare_unique_read s w log = granted s (right_by_unique_read w) log

-- the handle keeps its pass
abbrev pub after_unique_read : SharedBlock → ℕ → List Entry → Fml
after_unique_read s w log = fsep (bare_unique_read s w log) (whole_pass s)

module _ {M : Type 1} {𝓤 : Ura M} (𝓛 : Logic 𝓤) (s : SharedBlock) where
  -- the read shows whether the handle is the only one
  pub reads_for_unique : Asks 𝓛 s (λ w. w) (fsep ftrue (stake s.names s.id s.own))
      (and_logged s [] (by_own s step.reads_for_unique) (after_unique_read s))
  reads_for_unique = held_step 𝓛 s (bare_unique_read s) step.reads_for_unique (λ w _. refl) (after_unique_read s)
      (λ _ _. whole_pass s)
      (turns_none 𝓛 s [] full_share (by_own s step.reads_for_unique) (λ log there. there) (λ p. refl))
      (λ _ _. id⊢ 𝓤 _) (λ j w n log holds. dite (ℕ_discrete n 1)
      (λ one. last_one 𝓛 s (λ w. w) right_by_unique_read 1 refl refl j w n log one holds)
      (λ other. more j w n other log holds)) any
    where
      others : (w : ℕ) → is_one_handle w ≡ false → right_by_unique_read w ≡ a_handle
      others w other = ap (λ z. if z then whole_block 1 else a_handle) other

      more : (j w n : ℕ) → n ≢ 1 → Held 𝓛 s (bare_unique_read s) (unit_of_count s.names) j false w n
      more j w n other log holds = qed 𝓛 (finds s w log false n (unit_of_count s.names)) ∵
          lives_on 𝓛 s ! false w n log holds $ move ! (1 ∷ []) $
          use1 𝓛 (‵ (title s.names)) (counted_stake 𝓛 s.names) $
          by ! (leaves 𝓛 s a_handle (right_by_unique_read w) log j
          (others w (is_one_handle-unmarked w n n holds.0 ∙ ne_eqb n 1 other)))

      any : (j : ℕ) (y : Bool) (e : Share) (w n : ℕ) → Held 𝓛 s (bare_unique_read s) (a_stake s y e) j true w n
      any j y e w n log holds = qed 𝓛 (finds s w log true n (a_stake s y e)) ∵
          lives_on 𝓛 s ! true w n log holds $ move ! (1 ∷ []) $
          use1 𝓛 (‵ (title s.names)) (entitles 𝓛 s.names e y) $
          by ! (leaves 𝓛 s a_handle (right_by_unique_read w) log j
          (others w (is_one_handle-marked w holds.0.same_mark)))
