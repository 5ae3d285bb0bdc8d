-- The value of a borrowed handle.
use Rattle.handles.specs.declared.borrow.ArcBorrow.{ArcBorrow}

-- the handle that is borrowed
abbrev pub borrowed : {X : Type 0} → ArcBorrow X → X
borrowed b = b.0.now
