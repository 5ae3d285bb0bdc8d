-- The mark, made through a `&` to a handle. Assumes `Logic`.
use lib.Bits.{bit_or}
use Rattle.counting_word.specs.WordSteps as step
use Rattle.handles.proofs.Steps.Asking as asking
use Rattle.handles.proofs.Steps.Shared.{◌≡◌, ℕ, ◌<◌, Bool, true, false, [], ◌∷◌, sym, refl, ◌∙◌, subst, List, Entry}
use Rattle.handles.proofs.Steps.Shared.{by_own, arith, Ura, ftrue, Share, Fml, fsep, flft, Logic, ‵, ◌$◌, ◌∵◌, !, qed}
use Rattle.handles.proofs.Steps.Shared.{by, move, keep, fsplit, fsplit3, fjoin3, fpair, fpick, fpack, suffices, done}
use Rattle.handles.proofs.Steps.Shared.{rest, mark_bit, count_of-unmarked, StandsWithin, marked, SharedBlock, shared}
use Rattle.handles.proofs.Steps.Shared.{counts, rule, Entails, lives_on, Lands, Asks, and_logged, leb-false}
use Rattle.handles.proofs.Steps.Shared.{marked_word, bit_or-mark_bit, stands-marked_word, WhileAlive, finds}
use Rattle.handles.proofs.Steps.Shared.{counts_one}
use Rattle.handles.proofs.Steps.Words.{marked-stands}
use Rattle.handles.proofs.Steps.Reads.{bare_share, a_share, plain_step}
use Rattle.handles.proofs.Steps.Turns.{turns_none}

-- the token is all that comes back
abbrev pub after_mark : SharedBlock → Share → ℕ → List Entry → Fml
after_mark s q w log = a_share s q

module _ {M : Type 1} {𝓤 : Ura M} (𝓛 : Logic 𝓤) (s : SharedBlock) (q : Share) where
  -- an or with the mark
  pub marks : Asks 𝓛 s (λ w. bit_or w mark_bit) (fsep ftrue (a_share s q))
      (and_logged s [] (by_own s step.marks) (after_mark s q))
  marks = plain_step 𝓛 s q step.marks (λ w. bit_or w mark_bit) (λ w small. sym (bit_or-mark_bit w small))
      (turns_none 𝓛 s [] q (by_own s step.marks) (λ log there. there) (λ p. refl))
      (λ j mark w n log small holds. subst (λ z. Marked j mark z n log) (sym (bit_or-mark_bit w small))
      (at j mark w n log small holds))
    where
      -- the word is z by now
      Marked : ℕ → Bool → ℕ → ℕ → List Entry → Type 1
      Marked j mark z n log = Lands 𝓛 s z log mark n (bare_share s q) (bare_share s q) j

      -- what the block had, but for its lender
      Had : ℕ → ℕ → List Entry → Fml
      Had w n log = fsep (counts s w log) (fsep (rest 64 s.names.shared n) (fsep s.kept (bare_share s q)))

      first_mark : (j w n : ℕ) (log : List Entry) → n < mark_bit → StandsWithin s.limit (marked_word w) true n
          → Marked j false (marked_word w) n log
      first_mark j w n log low holds =
          qed 𝓛 (finds s (marked_word w) log false n (bare_share s q)) ∵
          move ! (1 ∷ []) $ fsplit3 ! $ move ! (1 ∷ []) $ fsplit ! $ move ! (3 ∷ 4 ∷ 2 ∷ 1 ∷ 5 ∷ []) $
          suffices ! _ (asking.ends_first 𝓛 (rule s) (bare_share s q) s.names.unmarked j
          (Had (marked_word w) n log) ends) $ keep ! (0 ∷ 1 ∷ 2 ∷ 3 ∷ 4 ∷ []) $ done !
        where
          ends : Entails 𝓛 (fsep (marked s.names) (Had (marked_word w) n log)) (fsep (rule s) (bare_share s q))
          ends = qed 𝓛 (‵ (marked s.names) ∷ ‵ (counts s (marked_word w) log) ∷ ‵ (rest 64 s.names.shared n)
              ∷ ‵ s.kept ∷ ‵ (bare_share s q) ∷ []) ∵ move ! (2 ∷ []) $
              counts_one 𝓛 s ! n (omega arith) $ move ! (1 ∷ []) $
              fpick ! (λ e. fpick ! (λ c. fpack ! Share (λ e. flft (shared s) e) e $
              -- [the pool; the parts; the mark; the word; what is kept; the token]
              fpair ! 0 4 $ move ! (1 ∷ 0 ∷ 2 ∷ []) $ fjoin3 ! $
              move ! (1 ∷ 0 ∷ []) $ lives_on 𝓛 s ! true (marked_word w) n log holds $ done !))

      at : WhileAlive 𝓛 s marked_word (bare_share s q) (λ _ _. bare_share s q)
      at j false w n log small holds =
          let low : w < mark_bit = leb-false mark_bit w holds.0.same_mark in
          let same : n ≡ w = sym (holds.0.counts_live refl) ∙ count_of-unmarked w holds.0.same_mark in
          first_mark j w n log (omega arith) (marked-stands s.limit (marked_word w)
          n (stands-marked_word w n n false holds.0 (omega arith)))
      at j true w n log small holds = qed 𝓛 (finds s (marked_word w) log true n (bare_share s q)) ∵
          lives_on 𝓛 s ! true (marked_word w) n log (marked-stands s.limit (marked_word w) n
          (stands-marked_word w n n true holds.0 (omega arith))) $ by ! (asking.closes 𝓛 (rule s) (bare_share s q) j)
