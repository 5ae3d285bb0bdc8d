-- What a `&` to a marked block has, at every lifetime alike: a log of it with the mark, that it is marked, and its
-- value, which is shared for good.
use Rattle.std.specs.Prelude.{◌≡◌, ℕ, true, List, [], ◌∷◌}
use base.Fml.{Lft, Fml, fsep, flft}
use denote.RattleType.{RattleType}
use denote.RawPtr.{Ptr}
use denote.Sharing.{said, beside, some, one, held, always}
use Rattle.counting_word.specs.Logs.{Entry, static_birth}
use Rattle.counting_word.specs.Tallies.{tally_of}
use Rattle.handles.specs.declared.block.Held.{Held}
use Rattle.handles.specs.declared.block.handle.Handle.{Handle}
use Rattle.handles.specs.declared.block.permit.Logged.{Logged}
use Rattle.handles.specs.Inside.Blocks.{Names, fact, reached, marked, lent_share, block_rule, shown}

-- a log with a mark in it, which none of the later steps undoes
abbrev pub HasMark : List Entry → Type 0
HasMark log = (tally_of log).mark ≡ true

-- the log of a block that is born marked
abbrev pub born_static : List Entry
born_static = record { handle = 0; kind = static_birth } ∷ []

abbrev pub tells_mark : Logged → Fml
tells_mark l = fsep (reached l.id l.log) (fact (HasMark l.log))

-- what a marked block holds, and the step by which it is known to be marked
pub record Staying (X : Type 0) : Type 0 where
  pub held : Held X
  pub known_by : Logged

-- which handle of the block it is, and the names of the sharing
pub record Lasting : Type 0 where
  pub number : ℕ
  pub names : Names

module _ (R : RattleType) (p : Ptr) (d : Staying R.Denot) where
  -- A handle that never ends is lent for good: shares of the token of the sharing, and of the handle's pass.
  abbrev pub stays : Lasting → Lft → Fml
  stays t = let i : Names = t.names in beside (said (marked i))
      (beside (held [] (one (λ q. flft (i.shared ∷ []) q)))
      (beside (held [] (one (lent_share i d.known_by.id t.number)))
      (beside (always (block_rule R p d.held d.known_by.id i)) (held (i.shared ∷ []) (shown R p d.held)))))

  abbrev pub marked_shares : Lft → Fml
  marked_shares = beside (said (tells_mark d.known_by)) (some Lasting stays)

-- a block of this handle, known to be marked by this log
abbrev pub IsKnownBy : {X : Type 0} → Handle X → List Entry → Staying X → Type 0
IsKnownBy of log d = (d.held ≡ of.held) × (d.known_by.id ≡ of.id) × (d.known_by.log ≡ log)
