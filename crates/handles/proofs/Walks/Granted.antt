-- What a permit and a handle own by what a step granted. Assumes `Logic`.
use Rattle.std.proofs.Common.{◌≡◌, ℕ, ◌+◌, Bool, true, false, List, [], ◌∷◌, refl}
use Rattle.std.proofs.Common.{if◌then◌else◌, nat_eq}
use seplogic.Ra.Ura.{Ura}
use base.Logic.{guard, ent}
use base.Fml.{Fml, fex, fsep, finv, ftrue}
use types.Logic.{Logic, sem}
use types.Kit.{use1, split, ◌⊛◌, drop, fpick, later, use2, await, check, Item, ‵, ◌$◌, ◌∵◌, ! }
use types.Kit.{qed, by, keep, move, fsplit, fsplit3, fjoin, fjoin3, fpack, updating, now, done, ⋆}
use types.Tokens.{lent_back}
use denote.RattleType.{RattleType}
use base.Fraction.{full_share}
use denote.RawPtr.{Ptr, InBlock, block_of, count_of as offset_of}
use denote.Steps.{nothing as nothing_more}
use Rattle.counting_word.specs.CountingWord.{is_one_handle, is_marked_word}
use Rattle.counting_word.specs.Rights.{Right, nothing, a_handle, to_lower, whole_block, right_by_read, right_by_raise}
use Rattle.counting_word.specs.Rights.{right_by_drop_read, right_by_lower, IsWholeBlock}
use Rattle.handles.specs.Inside.Blocks.{HeldRow, handle_owns, Names, BlockId, a_drop, counted, stamp, held_and_block}
use Rattle.handles.specs.Inside.Blocks.{title, placed, shown, block_rule, unshared_block, Sharing, begun, held_as}
use Rattle.handles.specs.Inside.Blocks.{permit_owns, permit_by, reached, adds, logs, kept_log, known_log}
use Rattle.handles.specs.Inside.Rows.{pass}
use types.Growing.{latest_shows}
use base.Growing.{latest}
use Rattle.counting_word.specs.Logs.{Entry}
use Rattle.counting_word.specs.Tallies.{Adds, newest}
use Rattle.handles.proofs.Steps.Shared.{block_at, granted, grants}

-- what gives no handle of its own
abbrev pub NoHandle : Right → Type 0
NoHandle a_handle = ⊥
NoHandle r = Unit {0}

-- what is a handle or nothing
abbrev pub NoBlock : Right → Type 0
NoBlock a_handle = Unit {0}
NoBlock nothing = Unit {0}
NoBlock r = ⊥

-- a read gives no block
pub read-NoBlock : (w : ℕ) → NoBlock (right_by_read w)
read-NoBlock w = at (is_marked_word w) where
  at : (y : Bool) → NoBlock (if y then a_handle else nothing)
  at true = tt
  at false = tt

-- and a raise gives none
pub raise-NoBlock : (seen w : ℕ) → NoBlock (right_by_raise seen w)
raise-NoBlock seen w = at (nat_eq w seen) where
  at : (y : Bool) → NoBlock (if y then a_handle else right_by_read w)
  at true = tt
  at false = read-NoBlock w

-- the word of a whole block
pub whole_block_of : (r : Right) → IsWholeBlock r → (w : ℕ) × (r ≡ whole_block w)
whole_block_of nothing none = absurd none
whole_block_of a_handle none = absurd none
whole_block_of to_lower none = absurd none
whole_block_of (whole_block w) whole = (w, refl)

-- the read by which a handle ends gives no handle
pub drop_read-NoHandle : (w : ℕ) → NoHandle (right_by_drop_read w)
drop_read-NoHandle w = at (is_marked_word w) where
  at : (y : Bool) → NoHandle (if y then nothing else to_lower)
  at true = tt
  at false = tt

-- and a lower gives none
pub lower-NoHandle : (w : ℕ) → NoHandle (right_by_lower w)
lower-NoHandle w = at (is_one_handle w) where
  at : (y : Bool) → NoHandle (if y then whole_block 0 else nothing)
  at true = tt
  at false = tt

module _ {M : Type 1} {𝓤 : Ura M} (𝓛 : Logic 𝓤) (R : RattleType) (p : Ptr) (x : (HeldRow R).Denot) (η : BlockId)
    (n : ℕ) (inb : InBlock p) (i : Names) where
  open 𝓛 use {H}

  abbrev Granted : Right → List Entry → Fml
  Granted = grants (block_at R p x η n i)

  abbrev rule : Item 𝓤
  rule = ‵ (finv (block_rule R p x η i))

  abbrev sharing : Item 𝓤
  sharing = ‵ (shown R p x (i.shared ∷ []))

  -- what it comes to, with this beside it
  abbrev Becomes : Fml → List (Item 𝓤) → Fml → Type 1
  Becomes P Γ Q = ent 𝓤 (⋆ 𝓛 (‵ P ∷ Γ)) (H.⇛ (sem 𝓛 Q))

  -- the whole block, once its sharing is over
  pub block_back : (w : ℕ) (log : List Entry)
      → Becomes (granted (block_at R p x η n i) (whole_block w) log) (rule ∷ [])
      (fsep (placed p) (unshared_block R p x η w log))
  block_back w log = qed 𝓛 (‵ (granted (block_at R p x η n i) (whole_block w) log) ∷ rule ∷ []) ∵
      updating ! $ fsplit3 ! $ move ! (2 ∷ []) $ fsplit ! $ move ! (3 ∷ 0 ∷ []) $ lent_back ! tt $
      -- [what is held and the block; the stamp; the word; the rule]
      move ! (0 ∷ 1 ∷ []) $ fjoin ! $ move ! (1 ∷ 0 ∷ []) $ fjoin ! $ nothing_more ! $
      fpack ! (InBlock p) (λ _. ftrue) inb $ fjoin ! $ now ! $ keep ! (0 ∷ []) $ done !

  -- a handle, which sees the value as the one that made the step
  again : (m : ℕ) → Becomes (fsep (title i) (pass η.living m full_share)) (rule ∷ sharing ∷ [])
      (fsep (placed p) (fex Sharing (held_as R p x η m)))
  again m = qed 𝓛 (‵ (fsep (title i) (pass η.living m full_share)) ∷ rule ∷ sharing ∷ []) ∵ updating ! $ fjoin3 ! $
      fpack ! Names (λ j. counted (held_and_block R p x) (stamp p) x.limit.count (block_of p) (offset_of p + 0) η j m
      (shown R p x)) i $ fpack ! Sharing (held_as R p x η m) begun $ nothing_more ! $
      fpack ! (InBlock p) (λ _. ftrue) inb $ fjoin ! $ now ! $ done !

  -- What a step granted, as a permit owns it: of the handle that made the step, or of the one that was born.
  by_kept : (r : Right) (log : List Entry) → NoHandle r
      → Becomes (Granted r log) (rule ∷ []) (permit_by R p x η n r log)
  by_kept nothing log none = qed 𝓛 (‵ (Granted nothing log) ∷ rule ∷ [])
      ∵ updating ! $ keep ! [] $ nothing_more ! $ fpack ! (InBlock p) (λ _. ftrue) inb $ now ! $ done !
  by_kept a_handle log none = absurd none
  by_kept to_lower log none = qed 𝓛 (‵ (Granted to_lower log) ∷ rule ∷ [])
      ∵ updating ! $ fjoin ! $ fpack ! Names (λ j. fsep (a_drop j η n) (finv (block_rule R p x η j))) i $
      nothing_more ! $ fpack ! (InBlock p) (λ _. ftrue) inb $ fjoin ! $ now ! $ done !
  by_kept (whole_block w) log none = qed 𝓛 (‵ (Granted (whole_block w) log) ∷ rule ∷ []) ∵
      fsplit ! $ keep ! (0 ∷ 2 ∷ []) $ by ! (block_back w log)

  -- the handle that was born
  by_shown : (r : Right) (log : List Entry) → NoBlock r
      → Becomes (Granted r log) (rule ∷ sharing ∷ []) (permit_by R p x η (newest log) r log)
  by_shown nothing log none = qed 𝓛 (‵ (Granted nothing log) ∷ rule ∷ sharing ∷ []) ∵
      keep ! (0 ∷ 1 ∷ []) $ by ! (by_kept nothing log tt)
  by_shown a_handle log none = again (newest log)
  by_shown to_lower log none = absurd none
  by_shown (whole_block w) log none = absurd none

  -- a read for unique shows whether the handle is the only one
  pub sole_shown : (is_sole : Bool) (log : List Entry)
      → Becomes (fsep (granted (block_at R p x η n i) (if is_sole then whole_block 1 else a_handle) log)
      (pass η.living n full_share)) (rule ∷ sharing ∷ []) (handle_owns R p x η n is_sole (known_log is_sole log))
  sole_shown true log = qed 𝓛 (‵ (fsep (granted (block_at R p x η n i) (whole_block 1) log)
      (pass η.living n full_share)) ∷ rule ∷ sharing ∷ []) ∵ updating ! $ fsplit ! $ move ! (0 ∷ 2 ∷ []) $
      use2 𝓛 (later (‵ (fsep (placed p) (unshared_block R p x η 1 log)))) (block_back 1 log) $ await ! tt $ fsplit ! $
      -- [the place; the block; the pass; the sharing]
      move ! (1 ∷ 2 ∷ []) $ fjoin ! $ move ! (1 ∷ 0 ∷ []) $ fjoin ! $ now ! $ keep ! (0 ∷ []) $ done !
  sole_shown false log = again n

  module _ (old : List Entry) (e : Entry) (w : ℕ) where
    -- a permit, once what is in the log is known
    abbrev Reported : ℕ → (r : Right) (log : List Entry) → List (Item 𝓤) → Type 1
    Reported m r log Γ = ent 𝓤 (⋆ 𝓛 (‵ (fsep (adds x.limit.count η old e w log) (Granted r log)) ∷ Γ))
        (H.⇛ (guard 𝓤 (Adds x.limit.count old e w log) (sem 𝓛 (permit_owns R p x η m r log))))

    reported : (m : ℕ) (r : Right) (log : List Entry) (i : Item 𝓤)
        → Becomes (Granted r log) (i ∷ []) (permit_by R p x η m r log) → Reported m r log (i ∷ [])
    reported m r log i h = qed 𝓛 (‵ (fsep (adds x.limit.count η old e w log) (Granted r log)) ∷ i ∷ []) ∵
        updating ! $ fsplit ! $ fsplit ! $ move ! (1 ∷ []) $ fpick ! (λ adds. drop ! $ move ! (1 ∷ 2 ∷ []) $
        use2 𝓛 (later (‵ (permit_by R p x η m r log))) h $ await ! tt $ move ! (1 ∷ 0 ∷ []) $ fjoin ! $ now ! $
        check ! adds $ done !)

    -- a permit of the handle that made the step, which gives none of its own
    pub permit_kept : (r : Right) (log : List Entry) → NoHandle r → Reported n r log (rule ∷ [])
    permit_kept r log none = reported n r log rule (by_kept r log none)

    -- a permit of the handle that was born, if one was
    pub permit_shown : (r : Right) (log : List Entry) → NoBlock r → Reported (newest log) r log (rule ∷ sharing ∷ [])
    permit_shown r log none = reported (newest log) r log (rule ⊛ sharing) (by_shown r log none)

module _ {M : Type 1} {𝓤 : Ura M} (𝓛 : Logic 𝓤) (R : RattleType) (p : Ptr) (x : (HeldRow R).Denot)
    (η : BlockId) (n : ℕ) where
  -- the block of the only handle, with its log
  pub sole_permits : (log : List Entry) → ent 𝓤 (sem 𝓛 (handle_owns R p x η n true log))
      (sem 𝓛 (permit_owns R p x η n (whole_block 1) log))
  sole_permits log = qed 𝓛 (‵ (handle_owns R p x η n true log) ∷ []) ∵ fsplit ! $ move ! (1 ∷ []) $ fsplit ! $
      fsplit ! $ fsplit ! $ move ! (1 ∷ []) $ fsplit ! $
      -- [the log; what it leaves and the rows; the word; what is held and the stamp; the pass; the place]
      use1 𝓛 (‵ (latest logs full_share η.log (kept_log log)) ⊛ ‵ (reached η log)) (latest_shows logs 𝓛 full_share η.log
      (kept_log log) (kept_log log) (logs.same (kept_log log))) $ split ! $
      -- [the log; that it was reached; what it leaves; the word; what is held and the stamp; the pass; the place]
      move ! (0 ∷ 2 ∷ []) $ fjoin ! $ move ! (2 ∷ 0 ∷ []) $ fjoin ! $ move ! (0 ∷ 2 ∷ []) $ fjoin ! $
      -- [the block; that the log was reached; the pass; the place]
      move ! (3 ∷ 0 ∷ []) $ fjoin ! $ move ! (1 ∷ 0 ∷ []) $ fjoin ! $ keep ! (0 ∷ []) $ done !
