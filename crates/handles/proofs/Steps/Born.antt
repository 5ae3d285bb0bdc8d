-- What is known of a marked block with no step on its word: that it is marked, by a log with a mark in it; and then a
-- handle more, which the log has as an entry that is no step. Assumes `Logic`.
use Rattle.handles.specs.Inside.Marked.{HasMark}
use Rattle.handles.proofs.Logs.Marks.{has_mark-prefix}
use Rattle.handles.proofs.Steps.Reads.{own_pass, a_share, no_share}
use Rattle.handles.proofs.Steps.Turns.{turns_static}
use Rattle.handles.proofs.Steps.Stepped.{begun_with, records, Recorded, unknown}
use Rattle.handles.proofs.Steps.Shared.{◌≡◌, ℕ, true, false, [], ◌∷◌, ◌++◌, refl, sym, ◌∙◌, Ura, ent, upd, upd_i, via}
use Rattle.handles.proofs.Steps.Shared.{never, never_e, sep, SProp, ftrue, full_share, Share, Fml, fsep, fex, finv}
use Rattle.handles.proofs.Steps.Shared.{Entry, List, static_handle, given, learn, Logic, sem, ‵, ◌$◌, ◌∵◌, !, qed, by}
use Rattle.handles.proofs.Steps.Shared.{move, keep, drop, frame, assume, fsplit, fsplit3, fjoin3, fpair, fpick, fpack}
use Rattle.handles.proofs.Steps.Shared.{suffices, use1, use2, done, settle, raw, a_handle, title, marked, unmarked}
use Rattle.handles.proofs.Steps.Shared.{Stage, living, over, SharedBlock, at_stage, rule, Bool, counts, beside}
use Rattle.handles.proofs.Steps.Shared.{StandsWithin, makes_one, lives_on, fdead_twice, no_token, passed, grants}
use Rattle.handles.proofs.Steps.Shared.{adds, reached, latest, logs, kept_log, IsPrefix, is_marked_word, keeps-counts}
use Rattle.handles.proofs.Steps.Shared.{true≢false, tally_of, nothing_more, finds}

-- the entry of a handle that is made with no step
abbrev pub static_entry : SharedBlock → Entry
static_entry s = record { handle = s.own; kind = static_handle }

module _ {M : Type 1} {𝓤 : Ura M} (𝓛 : Logic 𝓤) (s : SharedBlock) (q : Share) where
  open 𝓛 use {H}

  -- the entry is in the log, and a handle is made
  abbrev pub Born : ℕ → List Entry → Fml
  Born w log = fsep (a_share s q) (fsep (adds s.limit s.id [] (static_entry s) w log) (grants s a_handle log))

  -- at some word and log
  abbrev pub BornSome : Fml
  BornSome = fex ℕ (λ w. fex (List Entry) (Born w))

  -- the mark, and the share
  abbrev Marks : Fml
  Marks = fsep (marked s.names) (a_share s q)

  -- who has a share of the token, and X beside it, finds the block alive, and may do with it what leaves it so
  module _ (X Y : Fml) where
    abbrev Maker : Fml
    Maker = fsep X (a_share s q)

    abbrev Done : SProp 𝓤
    Done = sep 𝓤 (sem 𝓛 (rule s)) (sem 𝓛 Y)

    abbrev Alive : Type 1
    Alive = (mark : Bool) (w n : ℕ) (log : List Entry) → StandsWithin s.limit w mark n
        → ent 𝓤 (sem 𝓛 (fsep (counts s w log) (fsep (beside s mark n) Maker))) (upd 𝓤 Done)

    inside : Alive → ent 𝓤 (sep 𝓤 (sem 𝓛 (finv (rule s))) (sem 𝓛 Maker)) (H.⇛ (sem 𝓛 Y))
    inside alive = qed 𝓛 (‵ (finv (rule s)) ∷ ‵ Maker ∷ []) ∵
        suffices ! _ (𝓛.invs.inv_acc (rule s) (sem 𝓛 Y)) $ frame ! $ assume ! (‵ (rule s)) $
        fpick ! (λ g. by ! (at g))
      where
        at : (g : Stage) → ent 𝓤 (sem 𝓛 (fsep (at_stage s g) Maker)) (upd 𝓤 Done)
        at over = qed 𝓛 (‵ (at_stage s over) ∷ ‵ Maker ∷ []) ∵
            fsplit ! $ move ! (2 ∷ []) $ fsplit ! $ move ! (1 ∷ []) $ fsplit ! $
            -- [half of the share; the pass; X; that it is over; the token of the mark]
            keep ! (3 ∷ 0 ∷ []) $ by ! (via 𝓤 (never 𝓤) (no_share 𝓛 s q) (never_e 𝓤 _))
        at (living mark w n) = qed 𝓛 (‵ (at_stage s (living mark w n)) ∷ ‵ Maker ∷ []) ∵ fsplit3 ! $
            move ! (1 ∷ []) $ fpick ! (λ holds. drop ! $ fsplit ! $ move ! (1 ∷ []) $ fpick ! (λ log.
            -- [the log; the word; what is beside the word; what its maker has]
            fpair ! 1 0 $ by ! (alive mark w n log holds)))

  -- a share of the token of a marked block makes one more handle
  pub born : ent 𝓤 (sep 𝓤 (sem 𝓛 (finv (rule s))) (sem 𝓛 Marks)) (H.⇛ (sem 𝓛 BornSome))
  born = inside (marked s.names) BornSome at where
    T' : ℕ → List Entry → Fml
    T' w log = fsep (own_pass s q) (passed s a_handle log)

    Now : SProp 𝓤
    Now = Done (marked s.names) BornSome

    at : Alive (marked s.names) BornSome
    at false w n log holds = qed 𝓛 (finds s w log false n Marks) ∵ move ! (2 ∷ []) $ fsplit ! $
        -- [the mark; the share; the word; what is beside it]
        move ! (3 ∷ []) $ fsplit3 ! $ keep ! (2 ∷ 3 ∷ []) $ by ! (no_token 𝓛 (unmarked s) full_share _)
    at true w n log holds = let more : List Entry = log ++ static_entry s ∷ [] in
        let Ready : Fml = Recorded 𝓛 s [] ftrue (unknown 𝓛 s) (static_entry s) (own_pass s q) T' w w more in
        qed 𝓛 (finds s w log true n Marks) ∵ fsplit ! $ move ! (3 ∷ []) $ fsplit3 ! $ move ! (2 ∷ 4 ∷ 1 ∷ 3 ∷ 5 ∷ []) $
        -- [the pass; the log; the share; the word; what is beside the word; the mark]
        nothing_more ! $ fpair ! 0 1 $ fpair ! 1 0 $
        use1 𝓛 (raw (upd 𝓤 (sem 𝓛 Ready))) (records 𝓛 s [] ftrue (unknown 𝓛 s) (static_entry s) (own_pass s q) T' w w
        refl (turns_static 𝓛 s [] q w holds.0.same_mark) log) $
        settle 𝓛 Now (‵ Ready) $ fsplit ! $ fsplit ! $ move ! (1 ∷ []) $ fsplit ! $
        -- [the pass; the new pass; the log; what is in it; the share; the word; what is beside the word; the mark]
        fpair ! 4 0 $ fpair ! 4 2 $ move ! (0 ∷ 4 ∷ []) $
        use2 𝓛 (‵ (fsep (rule s) (title s.names))) (makes_one 𝓛 s w n more holds) $ fsplit ! $
        -- [the rule; the title; the share and the pass; the new pass; what is in the log; the mark]
        suffices ! _ (upd_i 𝓤 Now) $ frame ! $ fpair ! 0 2 $ fpair ! 2 0 $ fpair ! 1 0 $
        fpack ! (List Entry) (Born w) more $ fpack ! ℕ (λ w. fex (List Entry) (Born w)) w $ keep ! (0 ∷ []) $ done !

  -- who knows of a log with a mark in it knows the block to be marked
  module _ (old : List Entry) (has : HasMark old) where
    -- the mark, and the share as it was
    abbrev pub Known : Fml
    Known = Marks

    -- the log tells the mark
    pub knows : ent 𝓤 (sep 𝓤 (sem 𝓛 (finv (rule s))) (sem 𝓛 (fsep (reached s.id old) (a_share s q))))
        (H.⇛ (sem 𝓛 Known))
    knows = inside (reached s.id old) Known at where
      Now : SProp 𝓤
      Now = Done (reached s.id old) Known

      at : Alive (reached s.id old) Known
      at false w n log holds = qed 𝓛 (finds s w log false n (fsep (reached s.id old) (a_share s q))) ∵
          fsplit ! $ move ! (1 ∷ []) $ fsplit3 ! $ move ! (1 ∷ []) $ fpick ! (λ left. drop ! $
          -- [the log; the rows; the word; what is beside it; what is known and the share]
          move ! (4 ∷ []) $ fsplit ! $ move ! (2 ∷ 0 ∷ []) $
          use2 𝓛 (given (IsPrefix old log) (‵ (latest logs full_share s.id.log (kept_log log))))
          (begun_with 𝓛 s old log) $ learn ! (λ begun.
          let same_mark : is_marked_word w ≡ (tally_of log).mark = (keeps-counts s.limit s.most log w left).same_mark
          in absurd (true≢false (sym (has_mark-prefix old log has begun) ∙ sym same_mark ∙ holds.0.same_mark))))
      at true w n log holds = qed 𝓛 (finds s w log true n (fsep (reached s.id old) (a_share s q))) ∵
          move ! (1 ∷ []) $ fsplit3 ! $ move ! (2 ∷ []) $ fdead_twice ! $
          -- [the mark, twice; the parts; the pool and what is kept; the word; what is known and the share]
          move ! (2 ∷ 3 ∷ 0 ∷ []) $ fjoin3 ! $ move ! (2 ∷ 0 ∷ []) $ lives_on 𝓛 s ! true w n log holds $
          suffices ! _ (upd_i 𝓤 Now) $ frame ! $ move ! (1 ∷ []) $ fsplit ! $ drop ! $ fpair ! 1 0 $ done !
