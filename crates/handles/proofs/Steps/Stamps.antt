-- A step on a word that stays in the invariant beside the counting word, as the stamp: it changes nothing else.
-- Assumes `Logic`.
use Rattle.handles.proofs.Steps.Asking as asking
use Rattle.handles.proofs.Steps.Shared.{finv, ℕ, ◌+◌, Bool, true, false, [], ◌∷◌, Ura, full_share, SProp, ent, never}
use Rattle.handles.proofs.Steps.Shared.{Share, Fml, fsep, fex, flft, flent, Logic, sem, ‵, ◌$◌, ◌∵◌, !, qed, by}
use Rattle.handles.proofs.Steps.Shared.{move, keep, fsplit, fsplit3, fjoin3, fpick, fpack, frame, fpair}
use Rattle.handles.proofs.Steps.Shared.{suffices, use1, use2, done, rest, marked, Stage, over, SharedBlock, shared}
use Rattle.handles.proofs.Steps.Shared.{unmarked, beside, at_stage, rule, Entails, ex, upd_i, via, never_e, show}
use Rattle.handles.proofs.Steps.Shared.{assume, block_ptr, asks, always, word, living}
use Rattle.handles.proofs.Steps.Reads.{a_share}

-- that word, at the offset o
abbrev pub kept_word : SharedBlock → ℕ → Fml
kept_word s o = fex ℕ (λ n. word s.block o n)

-- the block that keeps it
abbrev pub keeps : SharedBlock → ℕ → SharedBlock
keeps s o = record s { kept = kept_word s o }

module _ {M : Type 1} {𝓤 : Ura M} (𝓛 : Logic 𝓤) (s : SharedBlock) (o : ℕ) (q : Share) (f : ℕ → ℕ) where
  abbrev I : Fml
  I = rule (keeps s o)

  abbrev Swaps : Fml → Fml → Type 1
  Swaps F more = Entails 𝓛 F (fsep (kept_word s o) more) × Entails 𝓛 (fsep (kept_word s o) more) F

  -- what else is beside the counting word
  Others : Bool → ℕ → Fml
  Others false n = fsep (rest 64 s.names.shared n) (fsep (flent (shared s) s.content) (flft (unmarked s) full_share))
  Others true n = fsep (rest 64 s.names.shared (n + 1)) (fsep (fex Share (λ e. flft (shared s) e)) (marked s.names))

  -- the kept word comes out, and goes back in
  swaps : (P A C : Fml) → Swaps (fsep P (fsep (fsep A (kept_word s o)) C)) (fsep P (fsep A C))
  swaps P A C = (
    qed 𝓛 (‵ (fsep P (fsep (fsep A (kept_word s o)) C)) ∷ []) ∵ fsplit3 ! $ move ! (1 ∷ []) $ fsplit ! $
        move ! (2 ∷ 0 ∷ 3 ∷ 1 ∷ []) $ fjoin3 ! $ fpair ! 1 0 $ done !,
    qed 𝓛 (‵ (kept_word s o) ∷ ‵ (fsep P (fsep A C)) ∷ []) ∵ move ! (1 ∷ []) $ fsplit3 ! $
        fpair ! 1 3 $ move ! (1 ∷ 0 ∷ 2 ∷ []) $ fjoin3 ! $ done !,
  )

  kept_swaps : (mark : Bool) (n : ℕ) → Swaps (beside (keeps s o) mark n) (Others mark n)
  unfolding Others
  kept_swaps false n = swaps (rest 64 s.names.shared n) (flent (shared s) s.content) (flft (unmarked s) full_share)
  kept_swaps true n = swaps (rest 64 s.names.shared (n + 1)) (fex Share (λ e. flft (shared s) e)) (marked s.names)

  -- any step on the stamp through a `&` to a handle
  pub stamps : ent 𝓤 (sem 𝓛 (fsep (finv I) (a_share s q))) (asks 𝓛 (block_ptr s.block o)
      f always (λ _. a_share s q))
  stamps = asking.opened 𝓛 I s.block o f (λ _. a_share s q) (a_share s q)
      (λ j. qed 𝓛 (‵ I ∷ ‵ (a_share s q) ∷ []) ∵ suffices ! _ (upd_i 𝓤 (Goes j)) $ fpick ! (λ g. by ! (at j g)))
    where
      Goes : ℕ → SProp 𝓤
      Goes j = ex 𝓤 (asking.Lies 𝓛 I s.block o f (λ _. a_share s q) j)

      at : (j : ℕ) (g : Stage) → ent 𝓤 (sem 𝓛 (fsep (at_stage (keeps s o) g) (a_share s q))) (Goes j)
      at j (living mark w n) = qed 𝓛 (‵ (at_stage (keeps s o) (living mark w n)) ∷ ‵ (a_share s q) ∷ [])
          ∵ fsplit3 ! $ move ! (2 ∷ []) $
          use1 𝓛 (‵ (fsep (kept_word s o) (Others mark n))) (kept_swaps mark n).0 $ fsplit ! $
          fpick ! (λ k. show ! (asking.Lies 𝓛 I s.block o f (λ _. a_share s q) j) k $ frame ! $
          assume ! (‵ (word s.block o (f k))) $
          fpack ! ℕ (λ k. word s.block o k) (f k) $ use2 𝓛 (‵ (beside (keeps s o) mark n)) (kept_swaps mark n).1 $
          move ! (1 ∷ 2 ∷ 0 ∷ []) $ fjoin3 ! $
          fpack ! Stage (at_stage (keeps s o)) (living mark w n) $ by ! (asking.closes 𝓛 I (a_share s q) j))
      at j over = via 𝓤 (never 𝓤) (qed 𝓛 (‵ (at_stage (keeps s o) over) ∷ ‵ (a_share s q) ∷ [])
          ∵ fsplit ! $ move ! (2 ∷ []) $ fsplit ! $ keep ! (0 ∷ 2 ∷ []) $
          by ! (𝓛.lfts.lft-dead (shared s) q)) (never_e 𝓤 (Goes j))
