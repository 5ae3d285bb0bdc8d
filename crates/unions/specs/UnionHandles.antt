-- The values of union handles and of their borrows.
use Rattle.handles.specs.Borrowed.{borrowed}
use Rattle.unions.specs.Unions.{Union, First, Second}
use Rattle.unions.specs.declared.arc_union.EitherArc.{EitherArc}
use Rattle.unions.specs.declared.arc_union.EitherArc.TheVariants as of_arcs
use Rattle.unions.specs.declared.arc_union.ArcUnionBorrow.{ArcUnionBorrow}
use Rattle.unions.specs.declared.arc_union.ArcUnionBorrow.TheVariants as of_borrows

abbrev pub shown_union : {A B : Type 0} → EitherArc A B → Union A B
shown_union (of_arcs.First a) = First a
shown_union (of_arcs.Second b) = Second b

abbrev pub borrowed_union : {A B : Type 0} → ArcUnionBorrow A B → Union A B
borrowed_union (of_borrows.First a) = First (borrowed a)
borrowed_union (of_borrows.Second b) = Second (borrowed b)
