-- A raise of the word through a `&` to a handle. Assumes `Logic`.
use prog.Atomic.{either}
use Rattle.counting_word.specs.WordSteps as step
use Rattle.handles.specs.Founds.{HasFound}
use Rattle.handles.proofs.Steps.Stepped.{begun_with}
use Rattle.handles.proofs.Steps.Shared.{fsep, ◌≡◌, ℕ, ◌+◌, ◌%◌, ◌<◌, ◌≤◌, Bool, true, false, [], ◌∷◌, sym, refl}
use Rattle.handles.proofs.Steps.Shared.{ap, ◌∙◌, subst, arith, eq-eqb, ne_eqb, if◌then◌else◌, dite, ℕ_discrete, Ura}
use Rattle.handles.proofs.Steps.Shared.{Share, Fml, Logic, ‵, ◌$◌, ◌∵◌, !, qed, by, move, fsplit, fpair, use1}
use Rattle.handles.proofs.Steps.Shared.{mark_bit, StandsFor, count_of-unmarked, a_handle, right_by_read, StandsWithin}
use Rattle.handles.proofs.Steps.Shared.{WhileAlive, title, SharedBlock, counted_stake, lives_on, Lands, Asks}
use Rattle.handles.proofs.Steps.Shared.{and_logged, by_own, Entry, List, eqb, leb-true, greatest_count, stands-raised}
use Rattle.handles.proofs.Steps.Shared.{right_by_raise, reached, finds, counts_one}
use Rattle.handles.proofs.Steps.Words.{stands-unmarked}
use Rattle.handles.proofs.Steps.Reads.{bare_share, a_share, bare_reported, reported, shut, found, right_step}
use Rattle.handles.proofs.Steps.Turns.{turns_raise}

-- the word that a raise from `seen` to `next` makes of w
abbrev pub raised : ℕ → ℕ → ℕ → ℕ
raised seen next w = either (eqb w seen) next w

-- what a raise leaves
abbrev pub after_raise : SharedBlock → Share → ℕ → ℕ → List Entry → Fml
after_raise s q seen w log = reported s q w (right_by_raise seen w) log

abbrev bare_raise : SharedBlock → Share → ℕ → ℕ → List Entry → Fml
bare_raise s q seen w log = bare_reported s q w (right_by_raise seen w) log

module _ {M : Type 1} {𝓤 : Ura M} (𝓛 : Logic 𝓤) (s : SharedBlock) (q : Share) (seen : ℕ)
    (old : List Entry) (below : seen < s.limit) (has : HasFound s.own seen old) where
  low : seen < greatest_count
  low = let most : s.limit ≤ greatest_count = s.most in omega (arith, below, most)

  -- a raise that wins
  won : (j : ℕ) (mark : Bool) (n : ℕ) (log : List Entry) → StandsWithin s.limit seen mark n
      → Lands 𝓛 s (seen + 1) log mark n (bare_share s q) (bare_raise s q seen seen log) j
  won j true n log holds = let few : seen < greatest_count = low in
      let high : mark_bit ≤ seen = leb-true mark_bit seen holds.0.same_mark in absurd (omega arith)
  won j false n log holds = let few : seen < greatest_count = low in
      let same : n ≡ seen = sym (holds.0.counts_live refl) ∙ count_of-unmarked seen holds.0.same_mark in
      let stands : StandsFor (seen + 1) false (n + 1) (n + 1) = stands-unmarked (seen + 1) (n + 1) n (n + 1)
      (stands-raised seen n n holds.0 (λ full. absurd (omega arith))) in
      let within : (seen + 1) % mark_bit ≤ s.limit = omega (arith, below) in
      let wins : right_by_raise seen seen ≡ a_handle = ap (λ y. if y then a_handle else right_by_read seen)
      (eq-eqb seen seen refl) in
      qed 𝓛 (finds s (seen + 1) log false n (bare_share s q)) ∵ move ! (1 ∷ []) $ fsplit ! $
      counts_one 𝓛 s ! n (omega arith) $
      -- [the parts; the part; the lender and the mark; the word; the token]
      fpair ! 0 2 $ move ! (2 ∷ 0 ∷ []) $
      lives_on 𝓛 s ! false (seen + 1) (n + 1) log (stands, λ _. within) $ move ! (1 ∷ []) $
      use1 𝓛 (‵ (title s.names)) (counted_stake 𝓛 s.names) $
      by ! (shut 𝓛 s q log a_handle (right_by_raise seen seen) wins j seen holds.1)

  is_raised : (w : ℕ) → step.word_by (step.raises_from seen) w ≡ raised seen (seen + 1) w
  is_raised w = dite (ℕ_discrete w seen)
      (λ same. ap (λ (b : Bool). if b then w + 1 else w) (eq-eqb w seen same) ∙ ap (λ z. z + 1) same
      ∙ sym (ap (λ (b : Bool). either b (seen + 1) w) (eq-eqb w seen same)))
      (λ other. ap (λ (b : Bool). if b then w + 1 else w) (ne_eqb w seen other)
      ∙ sym (ap (λ (b : Bool). either b (seen + 1) w) (ne_eqb w seen other)))

  abbrev Raises : ℕ → Type 1
  Raises next = Asks 𝓛 s (raised seen next) (fsep (reached s.id old) (a_share s q))
      (and_logged s old (by_own s (step.raises_from seen)) (after_raise s q seen))

  -- a raise from a count that a read through the same handle found
  pub raises : (next : ℕ) → next ≡ seen + 1 → Raises next
  raises next is_next = subst Raises (sym is_next) (right_step 𝓛 s q (step.raises_from seen) (raised seen (seen + 1))
      (λ w _. is_raised w) old (reached s.id old) (begun_with 𝓛 s old) (right_by_raise seen)
      (turns_raise 𝓛 s old q seen below has) at)
    where
      F : ℕ → Bool → ℕ → ℕ → List Entry → Bool → Type 1
      F j mark w n log y =
          Lands 𝓛 s (either y (seen + 1) w) log mark n (bare_share s q) (bare_raise s q seen w log) j

      at : WhileAlive 𝓛 s (raised seen (seen + 1)) (bare_share s q) (bare_raise s q seen)
      at j mark w n log small holds = dite (ℕ_discrete w seen)
          (λ same. subst (λ z. F j mark z n log (eqb z seen)) (sym same) (subst (F j mark seen n log)
          (sym (eq-eqb seen seen refl))
          (won j mark n log (subst (λ z. StandsWithin s.limit z mark n) same holds))))
          (λ other. subst (F j mark w n log) (sym (ne_eqb w seen other)) (found 𝓛 s q log (right_by_raise seen w) j mark
          w n (ap (λ y. if y then a_handle else right_by_read w) (ne_eqb w seen other)) holds))
