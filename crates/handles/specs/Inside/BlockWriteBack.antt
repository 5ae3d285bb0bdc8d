-- The value of a block's handle after a `&mut` to that value has ended: what was last written through the `&mut`.
-- From then on there may be other handles.
use Rattle.std.specs.Prelude.{false, []}
use Rattle.std.specs.Borrow.{Fml, MutBor, RattleType, Lends, LendsIfOk}
use Rattle.std.specs.declared.result.Result.{Result}
use Rattle.handles.specs.declared.block.handle.Handle.{Handle}
use Rattle.handles.specs.declared.block.Block.{Block}
use Rattle.handles.specs.declared.block.permit.Logged.{Logged}
use Rattle.handles.specs.contracts.block.handle.Handle.{the_row}
use Rattle.handles.specs.contracts.block.Block.{the_row as block_row}

-- the limit stays
abbrev pub with_value : {X : Type 0} → Handle X → X → Handle X
with_value h w = record {
  block = h.block;
  held = record { limit = h.held.limit; value = w };
  sole = false;
  id = h.id;
  number = h.number;
  log = [];
}

-- of a block that nobody shares
abbrev pub LendsValue : (R : RattleType) → MutBor (Block R.Denot) → MutBor R.Denot → Fml
LendsValue R b r = Lends (block_row R) R b r (λ w. record {
  word = b.now.word;
  stamp = b.now.stamp;
  held = record { limit = b.now.held.limit; value = w };
  alloc = b.now.alloc;
})

abbrev pub LendsSole : (R : RattleType) → MutBor (Handle R.Denot) → MutBor R.Denot → Fml
LendsSole R h r = Lends (the_row R) R h r (with_value h.now)

-- at `Err` the value is as it was
abbrev pub LendsIfAlone : (R : RattleType) → MutBor (Handle R.Denot) → Result (MutBor R.Denot) Logged → Fml
LendsIfAlone R h r = LendsIfOk (the_row R) R h r (with_value h.now) (with_value h.now h.now.held.value)
