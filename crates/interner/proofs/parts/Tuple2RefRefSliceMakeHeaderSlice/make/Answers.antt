use Rattle.std.proofs.Common.{◌≡◌, true, sym, subst}
use Rattle.std.proofs.lemmas.Result.{IfOk-weaker}
use Rattle.handles.specs.HeaderSlice.{HeaderAndItems}
use Rattle.handles.specs.HeaderSlice.Laws.{slice_eq, slices_equiv}
use Rattle.interner.proofs.parts.Tuple2RefRefSliceMakeHeaderSlice.make.Goals as goal

pub returns-clause-stands : goal.returns-clause-stands
returns-clause-stands g c =
    let parts : HeaderAndItems _ _ = record { header = c.args.self.0.now; items = c.args.self.1.now } in
    let eq = slice_eq g.H.PartialEq.eq g.T.PartialEq.eq in
    IfOk-weaker c.from_header_and_slice.result _ _
    (λ slice is. subst (λ s. eq parts s ≡ true) (sym is) ((slices_equiv g.met.H.Eq.laws g.met.T.Eq.laws).refl parts))
    c.from_header_and_slice.ensures
