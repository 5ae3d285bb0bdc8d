-- The value of a header slice in contracts.
pub mod Builders
pub mod Laws
pub mod Lending
pub mod Order
pub mod Pulls
pub mod TryBuilders
pub mod UniqueLending
use Rattle.std.specs.Prelude.{ℕ, List, length}
use Rattle.std.specs.List.{refill}

pub record HeaderAndItems (H T : Type 0) : Type 0 where
  pub header : H
  pub items : List T

-- the items so far, and how many there may be
pub record ItemsInRoom (T : Type 0) : Type 0 where
  pub items : List T
  pub room : ℕ

-- the items once `written` was put in their place: as many as before
abbrev pub rewritten : {T : Type 0} → List T → List T → List T
rewritten items written = refill (length items) items written
