-- What a `&` to a marked block has: it may be had twice, and it shows the value at every lifetime. Assumes `Logic`.
use Rattle.std.proofs.Common.{ℕ, List, [], ◌∷◌, refl}
use seplogic.Ra.Ura.{Ura}
use base.Logic.{ent, sep, snd∗}
use base.Before.{before}
use base.Fraction.{full_share}
use base.Growing.{latest}
use base.Fml.{Lft, Incl, Incl-refl, Share, Fml, fsep, fex, flft}
use base.Share
use contract.BorrowLft.{meet_⊑_left, ⊑_static}
use types.Logic.{Logic, sem}
use types.Kit.{‵, ◌⊛◌, later, some as some_of, pick, await, use2, ◌$◌, ◌∵◌, !, qed, by, move, drop, split, fsplit}
use types.Kit.{fsplit3, fpick, fpack, use1, updating, now, done}
use types.Growing.{latest_shows, at_least_dup}
use types.Tokens.{shr_bor_shorten, bor_new, bor_fracture}
use denote.RattleType.{RattleType}
use denote.RawPtr.{Ptr}
use denote.Moves.{moves_from}
use denote.Sharing.{ShrLaws, said, one}
use denote.SharingLaws.{some_shr_laws, one_shr_laws, always_shr_laws, held_shr_laws}
use denote.Param.Laws.{Laws}
use Rattle.counting_word.specs.CountingWord.{marked_word}
use Rattle.counting_word.specs.Logs.{Entry}
use Rattle.handles.specs.declared.block.permit.Logged.{Logged}
use Rattle.handles.specs.Inside.Blocks.{HeldRow, Names, BlockId, marked, lent_share, bare_block, block_rule, shown}
use Rattle.handles.specs.Inside.Blocks.{kept_log, logs, reached}
use Rattle.handles.specs.Inside.Marked.{HasMark, Staying, Lasting, born_static, stays, tells_mark, marked_shares}
use Rattle.handles.proofs.Blocks.Rows.{cut_pass}
use Rattle.handles.proofs.Scripts.{fpair, ffact, flft_halves}
use Rattle.handles.proofs.Blocks.New.{Held_marked, Sole, begins_marked}
use Rattle.handles.proofs.Owners.{both_laws, shown-ShrLaws, known_settles}

-- what may be had twice, and is said for good
said_twice : (F : Fml) → ((M : Type 1) (𝓤 : Ura M) (𝓛 : Logic 𝓤) → ent 𝓤 (sem 𝓛 F) (sep 𝓤 (sem 𝓛 F) (sem 𝓛 F)))
    → ShrLaws (said F)
said_twice F twice = record {
  contraction = λ M 𝓤 𝓛 κ. twice M 𝓤 𝓛;
  mono = λ M 𝓤 𝓛 κ' κ. snd∗ 𝓤 (sem 𝓛 (before κ' κ)) (sem 𝓛 F);
}

tells-ShrLaws : (l : Logged) → ShrLaws (said (tells_mark l))
tells-ShrLaws l = said_twice T twice where
  T : Fml
  T = tells_mark l

  twice : (M : Type 1) (𝓤 : Ura M) (𝓛 : Logic 𝓤) → ent 𝓤 (sem 𝓛 T) (sep 𝓤 (sem 𝓛 T) (sem 𝓛 T))
  twice M 𝓤 𝓛 = qed 𝓛 (‵ T ∷ []) ∵ fsplit ! $
      use1 𝓛 (‵ (reached l.id l.log) ⊛ ‵ (reached l.id l.log)) (at_least_dup logs 𝓛 l.id.log (kept_log l.log)) $
      split ! $ move ! (2 ∷ []) $ fpick ! (λ has. drop ! $
      ffact ! (HasMark l.log) has $ fpair ! 1 0 $ ffact ! (HasMark l.log) has $ fpair ! 2 0 $ done !)

module _ (R : RattleType) (L : Laws R) (p : Ptr) (d : Staying R.Denot) where
  abbrev x : (HeldRow R).Denot
  x = d.held

  abbrev η : BlockId
  η = d.known_by.id

  marked-ShrLaws : (i : Names) → ShrLaws (said (marked i))
  marked-ShrLaws i = said_twice (marked i) (λ M 𝓤 𝓛. 𝓛.lfts.dead_dup (i.unmarked ∷ []))

  shows-ShrLaws : ShrLaws (shown R p x)
  shows-ShrLaws = shown-ShrLaws R L p x η 0

  stays-ShrLaws : (t : Lasting) → ShrLaws (stays R p d t)
  stays-ShrLaws t = let i : Names = t.names in let token : Share → Fml = λ q. flft (i.shared ∷ []) q in
      let lent : Share → Fml = lent_share i η t.number in
      both_laws (marked-ShrLaws i) (both_laws (held_shr_laws [] (one token) (one_shr_laws token))
      (both_laws (held_shr_laws [] (one lent) (one_shr_laws lent)) (both_laws
      (always_shr_laws (block_rule R p x η i)) (held_shr_laws (i.shared ∷ []) (shown R p x) shows-ShrLaws))))

  -- what a `&` to a marked block has may be had twice, and for a shorter lifetime
  pub marked_shares-ShrLaws : ShrLaws (marked_shares R p d)
  marked_shares-ShrLaws = both_laws (tells-ShrLaws d.known_by) (some_shr_laws Lasting (stays R p d) stays-ShrLaws)

  module _ {M : Type 1} {𝓤 : Ura M} (𝓛 : Logic 𝓤) where
    -- the value is seen at every lifetime
    pub stays_shown : (κ : Lft) → ent 𝓤 (sem 𝓛 (marked_shares R p d κ)) (sem 𝓛 (shown R p x κ))
    stays_shown κ = qed 𝓛 (‵ (marked_shares R p d κ) ∷ [])
        ∵ fsplit ! $ drop ! $ fpick ! (λ t. let a : Lft = t.names.shared ∷ [] in
        fsplit ! $ drop ! $ fsplit ! $ shr_bor_shorten ! κ (⊑_static κ) $ move ! (1 ∷ []) $ fsplit ! $ drop ! $
        fsplit ! $ drop ! $
        move ! (1 ∷ 0 ∷ []) $ by ! (moves_from 𝓛 (shown R p x) shows-ShrLaws κ a a (meet_⊑_left a κ)))

    -- a counted handle of a block that a log tells to be marked
    abbrev Told : ℕ → Names → Fml
    Told n i = fsep (Held_marked R p x η n i) (tells_mark d.known_by)

    -- given away for good
    pub becomes_lasting : (n : ℕ) (i : Names) (κ : Lft)
        → ent 𝓤 (sem 𝓛 (Told n i))
        (𝓛.H.⇛ (sem 𝓛 (marked_shares R p d κ)))
    becomes_lasting n i κ = let a : Lft = i.shared ∷ [] in
        qed 𝓛 (‵ (Told n i) ∷ []) ∵ updating ! $
        fsplit ! $ fsplit ! $ move ! (1 ∷ []) $ fsplit3 ! $ fsplit ! $ fpick ! (λ e. fsplit ! $ drop ! $
        -- [a share of the token; the pass; the rule; the sharing; the mark; the log]
        flft_halves ! $ bor_new ! tt [] $ move ! (1 ∷ []) $ drop ! $ bor_fracture ! tt (λ r. flft a r) (Share.left e) $
        move ! (2 ∷ []) $
        cut_pass 𝓛 η.living ! n (Share.right e) $ move ! (1 ∷ []) $ drop ! $ fpair ! 2 0 $
        bor_new ! tt [] $ move ! (1 ∷ []) $ drop ! $ bor_fracture ! tt (lent_share i η n) (Share.right e) $
        -- [what is lent of the pass; of the token; the rule; the sharing; the mark; the log]
        fpair ! 2 3 $ fpair ! 1 0 $ fpair ! 1 0 $
        fpair ! 1 0 $ fpack ! Lasting (λ t. stays R p d t κ) (record { number = n; names = i }) $
        fpair ! 1 0 $
        now ! $ done !)

module _ (R : RattleType) (L : Laws R) (p : Ptr) (x : (HeldRow R).Denot) where
  -- a marked block that holds x, known by this log
  abbrev pub staying : BlockId → List Entry → Staying R.Denot
  staying η log = record { held = x; known_by = record { id = η; log = log } }

  module _ {M : Type 1} {𝓤 : Ura M} (𝓛 : Logic 𝓤) where
    -- what a `&` to a new marked block has
    abbrev pub Lasts_new : Lft → BlockId → Fml
    Lasts_new κ η = marked_shares R p (staying η born_static) κ

    -- a new block that is marked, given away for good
    pub new_lasts : (μ : Lft) (q : Share) → Incl μ R.lives → (κ : Lft)
        → ent 𝓤 (sep 𝓤 (sem 𝓛 (bare_block R p x (marked_word 1))) (sem 𝓛 (flft μ q)))
        (𝓛.H.⇛ (sep 𝓤 (sem 𝓛 (fex BlockId (Lasts_new κ))) (sem 𝓛 (flft μ q))))
    new_lasts μ q lives κ = let w : ℕ = marked_word 1 in let log : List Entry = born_static in
        qed 𝓛 (‵ (bare_block R p x w) ∷ ‵ (flft μ q) ∷ [])
        ∵ updating ! $ use1 𝓛 (later (some_of (λ (η : BlockId). ‵ (Sole R p x η 0 w log))))
        (begins_marked R 𝓛 p x) $ await ! tt $ pick ! (λ η.
        fsplit ! $ fsplit ! $ fsplit ! $ move ! (1 ∷ []) $ fsplit ! $
        -- [the log; the run and the rows; the word; what is held and the stamp; the pass; the token]
        use1 𝓛 (‵ (latest logs full_share η.log (kept_log log)) ⊛ ‵ (reached η log))
        (latest_shows logs 𝓛 full_share η.log
        (kept_log log) (kept_log log) (logs.same (kept_log log))) $ split ! $
        -- [the log; that it was reached; the run and the rows; the word; what is held and the stamp; the pass; the
        -- token]
        fpair ! 0 2 $ fpair ! 2 0 $ fpair ! 0 2 $
        -- [the block; that the log was reached; the pass; the token]
        fpair ! 0 2 $ move ! (0 ∷ 2 ∷ []) $
        use2 𝓛 (later (‵ (fex Names (Held_marked R p x η 0)) ⊛ ‵ (flft μ q)))
        (known_settles R L 𝓛 p x η 0 log μ lives μ q (Incl-refl μ)) $
        await ! tt $ split ! $ fpick ! (λ i. ffact ! (HasMark log) refl $
        -- [the mark; the handle; the token; that the log was reached]
        fpair ! 3 0 $ fpair ! 1 0 $
        use1 𝓛 (later (‵ (Lasts_new κ η))) (becomes_lasting R L p (staying η log) 𝓛 0 i κ) $
        await ! tt $ fpack ! BlockId (Lasts_new κ) η $ now ! $ done !))
