-- The pages after a `&mut` to one of them has ended.
use Rattle.std.specs.Prelude.{◌≡◌, ℕ, slice_set}
use Rattle.std.specs.Borrow.{Fml, MutBor, RattleType, LendsSoOk}
use Rattle.std.specs.declared.alloc.Global.{Global}
use Rattle.std.specs.declared.result.Result.{Result}
use Rattle.std.specs.declared.vec.Vec.{Vec}
use Rattle.std.specs.contracts.alloc.Global.{the_row as heap_row}
use Rattle.std.specs.contracts.impls.GlobalAllocator.TheImpl.{ghosts}
use Rattle.std.specs.contracts.vec.Vec.{the_row as vec_row}
use Rattle.handles.specs.contracts.arc.Arc.{the_row as arc_row}

abbrev vector : RattleType → RattleType
vector T = vec_row T heap_row ghosts

-- page p is what was last written through the result; at `Err` the pages are as they were
abbrev pub LendsPage : (T : RattleType) → MutBor (Vec (Vec T.Denot Global) Global) → ℕ
    → {E : Type 0} → Result (MutBor (Vec T.Denot Global)) E → Fml
LendsPage T pages p r =
    LendsSoOk (arc_row (vector (arc_row (vector T)))) (vector T) pages r
    (λ new page. new.items ≡ slice_set pages.now.items p page)
    (λ new. new.items ≡ pages.now.items)
