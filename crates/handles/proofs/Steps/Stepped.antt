-- How a step on the word of a shared block is proved by what it does while the block lives, and goes into the log.
-- Assumes `Logic`.
use seplogic.Ra.Ura.{Ura}
use base.Fraction.{full_share}
use types.Logic.{Logic, sem}
use Rattle.handles.proofs.Steps.Framing.{shifted_framed}
use Rattle.handles.proofs.Steps.Asking as asking
use types.Growing.{latest_grows, latest_shows, latest_bounds}
use base.Stored.{Gv}
use Rattle.handles.proofs.Steps.Shared.{SharedBlock, rule, beside, at_stage, and_logged, Asks, fits, guard, List, ◌≡◌}
use Rattle.handles.proofs.Steps.Shared.{ℕ, ◌^◌, ◌<◌, Bool, [], ◌∷◌, sym, subst, ap, refl, ◌∙◌, ex, upd, upd_i, via}
use Rattle.handles.proofs.Steps.Shared.{never_e, SProp, ent, sep, never, ftrue, Fml, fsep, given, learn, check, show}
use Rattle.handles.proofs.Steps.Shared.{assume, ‵, ◌⊛◌, ◌$◌, ◌∵◌, !, qed, by, move, keep, drop, split, fsplit}
use Rattle.handles.proofs.Steps.Shared.{fsplit3, fjoin3, fpair, ffact, fpick, fpack, frame, suffices, use1, use2}
use Rattle.handles.proofs.Steps.Shared.{done, word, living, StandsWithin, unshared, rows, noted_as, adds, Stage, over}
use Rattle.handles.proofs.Steps.Shared.{logs, kept_log, reached, Entry, word_after, left_by, tally_of, coded_entry}
use Rattle.handles.proofs.Steps.Shared.{MayMake, IsTallied, Keeps, Adds, keeps-counts, keeps-more, settle, raw}
use Rattle.handles.proofs.Steps.Shared.{latest, IsPrefix, ◌++◌, ap₂, WhileAlive}

module _ {M : Type 1} {𝓤 : Ura M} (𝓛 : Logic 𝓤) (s : SharedBlock) where
  open 𝓛 use {H, A}

  -- What an entry that finds the word w makes of the rows: who makes it has T of them before and T' after, and knows
  -- that the log goes on from `old`.
  abbrev pub TurnsAt : List Entry → Entry → Fml → (ℕ → List Entry → Fml) → ℕ → Type 1
  TurnsAt old e T T' w = (log : List Entry) → IsPrefix old log → IsTallied w (tally_of log)
      → ent 𝓤 (sem 𝓛 (fsep T (rows s.id (tally_of log)))) (guard 𝓤 (MayMake s.limit (tally_of log) e)
      (sem 𝓛 (fsep (T' w (log ++ e ∷ [])) (rows s.id (tally_of (log ++ e ∷ []))))))

  -- the same, whatever word it finds
  abbrev pub Turns : List Entry → Entry → Fml → (ℕ → List Entry → Fml) → Type 1
  Turns old e T T' = (w : ℕ) → TurnsAt old e T T' w

  -- what is known of the log
  abbrev pub Knows : List Entry → Fml → Type 1
  Knows old Old = (log : List Entry)
      → ent 𝓤 (sep 𝓤 (sem 𝓛 (latest logs full_share s.id.log (kept_log log))) (sem 𝓛 Old)) (guard 𝓤 (IsPrefix old log)
      (sem 𝓛 (latest logs full_share s.id.log (kept_log log))))

  module _ (old : List Entry) (Old : Fml) (known : Knows old Old) (e : Entry) (T : Fml) (T' : ℕ → List Entry → Fml)
    where
      begins : (log : List Entry) → IsPrefix (kept_log log) (kept_log (log ++ e ∷ []))
      begins [] = (kept_log (e ∷ []), refl)
      begins (x ∷ xs) = let more : IsPrefix (kept_log xs) (kept_log (xs ++ e ∷ [])) = begins xs in
          (more.0, ap (λ (l : List Gv). kept_log (x ∷ []) ++ l) more.1)

      added : (log : List Entry) (w : ℕ) → Keeps s.limit log w → MayMake s.limit (tally_of log) e → IsPrefix old log
          → Adds s.limit old e w (log ++ e ∷ [])
      added log w left may more = record {
        runs = (keeps-more s.limit log w e left may).runs;
        others = more.0;
        found_word = ap left_by more.1 ∙ left.leaves;
        ends = ap (λ (l : List Entry). l ++ e ∷ []) (sym more.1);
      }

      -- the log with the entry, which leaves the word v
      abbrev pub Recorded : ℕ → ℕ → List Entry → Fml
      Recorded w v log = fsep (fsep (noted_as s.limit s.id v log) (T' w log)) (adds s.limit s.id old e w log)

      -- an entry goes into the log
      pub records : (w v : ℕ) → word_after e.kind w ≡ v → TurnsAt old e T T' w → (log : List Entry)
          → ent 𝓤 (sem 𝓛 (fsep (noted_as s.limit s.id w log) (fsep Old T)))
          (upd 𝓤 (sem 𝓛 (Recorded w v (log ++ e ∷ []))))
      records w v is turns log = let γ : ℕ = s.id.log in let more : List Entry = log ++ e ∷ [] in
          let Z : SProp 𝓤 = sem 𝓛 (Recorded w v more) in
          qed 𝓛 (‵ (noted_as s.limit s.id w log) ∷ ‵ (fsep Old T) ∷ []) ∵ fsplit3 ! $
          move ! (1 ∷ []) $ fpick ! (λ left. drop ! $ move ! (2 ∷ []) $ fsplit ! $
          -- [what is known of the log; the passes; the log; the rows]
          move ! (2 ∷ 0 ∷ []) $ use2 𝓛 (given (IsPrefix old log) (‵ (latest logs full_share γ (kept_log log))))
          (known log) $ learn ! (λ begun. move ! (1 ∷ 2 ∷ []) $
          use2 𝓛 (given (MayMake s.limit (tally_of log) e) (‵ (fsep (T' w more) (rows s.id (tally_of more)))))
          (turns log begun (keeps-counts s.limit s.most log w left)) $ learn ! (λ may. move ! (1 ∷ []) $
          -- [the log; the passes and the rows]
          use1 𝓛 (raw (upd 𝓤 (sem 𝓛 (latest logs full_share γ (kept_log more))))) (latest_grows logs 𝓛 γ (kept_log log)
          (kept_log more) (begins log)) $ settle 𝓛 Z (‵ (latest logs full_share γ (kept_log more))) $
          use1 𝓛 (‵ (latest logs full_share γ (kept_log more)) ⊛ ‵ (reached s.id more))
          (latest_shows logs 𝓛 full_share γ (kept_log more) (kept_log more) (logs.same (kept_log more))) $ split ! $
          suffices ! _ (upd_i 𝓤 Z) $ ffact ! (Keeps s.limit more v)
          (subst (Keeps s.limit more) is (keeps-more s.limit log w e left may)) $ move ! (3 ∷ []) $ fsplit ! $
          -- [the passes; the rows; that it is a run; the log; that it was reached]
          move ! (3 ∷ 2 ∷ 1 ∷ []) $ fjoin3 ! $ fpair ! 0 1 $ move ! (1 ∷ []) $
          ffact ! (Adds s.limit old e w more) (added log w left may begun) $
          fpair ! 1 0 $ fpair ! 1 0 $ done !)))

  -- A step is proved by what it does on a living block: its maker has X, which no block that is over leaves to
  -- anyone, and gets `bare`. It goes into the log, and with the passes that its entry leaves `bare` is `after`.
  module _ (old : List Entry) (Old : Fml) (known : Knows old Old) (e : Entry) (f : ℕ → ℕ)
      (is : (w : ℕ) → w < 2 ^ 64 → word_after e.kind w ≡ f w) (bare after : ℕ → List Entry → Fml) (X T : Fml)
      (T' : ℕ → List Entry → Fml) (turns : Turns old e T T')
      (joined : (w : ℕ) (log : List Entry) → ent 𝓤 (sem 𝓛 (fsep (bare w log) (T' w log))) (sem 𝓛 (after w log))) where
    abbrev Left : ℕ → Fml
    Left = and_logged s old e after

    -- what its maker has
    abbrev Has : Fml
    Has = fsep Old (fsep X T)

    -- then it may be asked for, and leaves its entry in the log
    pub stepped : WhileAlive 𝓛 s f X bare → ent 𝓤 (sem 𝓛 (fsep (unshared s.names) X)) (never 𝓤) → Asks 𝓛 s f Has Left
    stepped steps over-not = asking.opened 𝓛 (rule s) s.block s.offset f Left Has
        (λ j. qed 𝓛 (‵ (rule s) ∷ ‵ Has ∷ []) ∵ fpick ! (λ g. by ! (at j g)))
      where
        Lies : ℕ → ℕ → SProp 𝓤
        Lies j = asking.Lies 𝓛 (rule s) s.block s.offset f Left j

        Goes : ℕ → SProp 𝓤
        Goes j = ex 𝓤 (Lies j)

        swaps : (w : ℕ) (log : List Entry) → ent 𝓤 (sep 𝓤 (sem 𝓛 (bare w log))
            (sem 𝓛 (fsep (T' w log) (adds s.limit s.id old e w log)))) (sem 𝓛 (Left w))
        swaps w log = qed 𝓛 (‵ (bare w log) ∷ ‵ (fsep (T' w log) (adds s.limit s.id old e w log)) ∷ []) ∵
            move ! (1 ∷ []) $ fsplit ! $ move ! (2 ∷ 0 ∷ []) $ use2 𝓛 (‵ (after w log)) (joined w log) $ fpair ! 1 0 $
            fpack ! (List Entry) (λ log. fsep (adds s.limit s.id old e w log) (after w log)) log $ done !

        Found : Bool → ℕ → ℕ → List Entry → Fml
        Found mark w n log =
            fsep (word s.block s.offset w) (fsep (noted_as s.limit s.id w log) (fsep (beside s mark n) Has))

        made : (j : ℕ) (mark : Bool) (w n : ℕ) (log : List Entry) → StandsWithin s.limit w mark n → w < 2 ^ 64
            → ent 𝓤 (sem 𝓛 (Found mark w n log)) (upd 𝓤 (Goes j))
        made j mark w n log holds small = let more : List Entry = log ++ e ∷ [] in
            let Ready : Fml = Recorded old Old known e T T' w (f w) more in
            qed 𝓛 (‵ (Found mark w n log) ∷ []) ∵ fsplit3 ! $ move ! (2 ∷ []) $ fsplit3 ! $ move ! (2 ∷ []) $ fsplit ! $
            -- [what its maker has; the passes; what is beside the word; what is known of the log; the word; the log]
            fpair ! 3 1 $ fpair ! 4 0 $
            use1 𝓛 (raw (upd 𝓤 (sem 𝓛 Ready))) (records old Old known e T T' w (f w) (is w small) (turns w) log) $
            settle 𝓛 (Goes j) (‵ Ready) $ fsplit ! $ fsplit ! $
            -- [the log; the passes; what is in it; what its maker has; what is beside the word; the word]
            suffices ! _ (upd_i 𝓤 (Goes j)) $ show ! (Lies j) w $ move ! (5 ∷ []) $ frame ! $
            assume ! (‵ (word s.block s.offset (f w))) $
            fpair ! 0 1 $ move ! (0 ∷ 4 ∷ 3 ∷ []) $ fjoin3 ! $
            use1 𝓛 (raw (asking.Ending 𝓛 (rule s) (bare w more) j)) (steps j mark w n more small holds) $
            fpair ! 1 2 $ move ! (1 ∷ 0 ∷ []) $
            by ! (shifted_framed 𝓛 (sem 𝓛 (bare w more)) (sem 𝓛 (Left w))
            (sem 𝓛 (fsep (T' w more) (adds s.limit s.id old e w more))) (swaps w more) ((j, rule s) ∷ []))

        at : (j : ℕ) (g : Stage) → ent 𝓤 (sem 𝓛 (fsep (at_stage s g) Has)) (upd 𝓤 (Goes j))
        at j (living mark w n) = qed 𝓛 (‵ (at_stage s (living mark w n)) ∷ ‵ Has ∷ []) ∵
            move ! (1 ∷ []) $ move ! (1 ∷ []) $ fsplit3 ! $ move ! (1 ∷ []) $ fpick ! (λ holds. drop ! $ fsplit ! $
            fits 𝓛 s ! w (λ small. move ! (1 ∷ []) $ fpick ! (λ log.
            -- [the log; the word; what is beside it; what its maker has]
            fpair ! 2 3 $ move ! (2 ∷ 1 ∷ 0 ∷ []) $ fjoin3 ! $ by ! (made j mark w n log holds small))))
        at j over = qed 𝓛 (‵ (at_stage s over) ∷ ‵ Has ∷ []) ∵ move ! (1 ∷ []) $
            fsplit3 ! $ move ! (3 ∷ []) $ fsplit ! $ keep ! (0 ∷ 3 ∷ []) $ by ! (via 𝓤 (never 𝓤) over-not (never_e 𝓤 _))

  -- nothing is known of the log
  pub unknown : Knows [] ftrue
  unknown log = qed 𝓛 (‵ (latest logs full_share s.id.log (kept_log log)) ∷ ‵ ftrue ∷ [])
      ∵ check ! (log, refl) $ keep ! (0 ∷ []) $ done !

  uncoded : (xs ys : List Entry) (gs : List Gv) → kept_log xs ++ gs ≡ kept_log ys → IsPrefix xs ys
  uncoded [] ys gs e = (ys, refl)
  uncoded (x ∷ xs) [] gs e = absurd (cc)
  uncoded (x ∷ xs) (y ∷ ys) gs e =
      let same : x ≡ y = coded_entry.inj x y (cc) in let rest : IsPrefix xs ys = uncoded xs ys gs (cc) in
      (rest.0, ap₂ (λ (a : Entry) (l : List Entry). a ∷ l) same rest.1)

  -- the log began with these entries
  pub begun_with : (old : List Entry) → Knows old (reached s.id old)
  begun_with old log = qed 𝓛 (‵ (latest logs full_share s.id.log (kept_log log)) ∷ ‵ (reached s.id old)
      ∷ []) ∵
      use2 𝓛 (given (IsPrefix (kept_log old) (kept_log log)) (‵ (latest logs full_share s.id.log (kept_log log))
      ⊛ ‵ (reached s.id old))) (latest_bounds logs 𝓛 full_share s.id.log (kept_log log) (kept_log old)) $
      learn ! (λ begun. split ! $ check ! (uncoded old log begun.0 begun.1) $ keep ! (0 ∷ []) $ done !)
