-- The value of a handle after a `&mut` that it lent has ended: what was last written through the `&mut`.
use Rattle.std.specs.Prelude.{◌≡◌}
use Rattle.std.specs.Borrow.{Fml, MutBor, RattleType, Lends, LendsIf, LendsSoOk}
use Rattle.std.specs.declared.option.Option.{Option}
use Rattle.std.specs.declared.result.Result.{Result}
use Rattle.handles.specs.contracts.arc.Arc.{the_row as arc_row}
use Rattle.handles.specs.contracts.unique.UniqueArc.{the_row as unique_row}

-- of the only handle; another one is as it was
abbrev pub LendsIfAlone : (R : RattleType) → MutBor R.Denot → Option (MutBor R.Denot) → Fml
LendsIfAlone R a r = LendsIf (arc_row R) R a r (λ w. w) a.now

-- of a handle that gets a block of its own if it needs one; at `Err` it is as it was
abbrev pub LendsOwn : (R : RattleType) → MutBor R.Denot → {E : Type 0} → Result (MutBor R.Denot) E → Fml
LendsOwn R a r = LendsSoOk (arc_row R) R a r (λ n w. n ≡ w) (λ n. n ≡ a.now)

abbrev pub LendsUnique : (R : RattleType) → MutBor R.Denot → MutBor R.Denot → Fml
LendsUnique R u r = Lends (unique_row R) R u r (λ w. w)
