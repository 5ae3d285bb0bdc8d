use Rattle.std.proofs.Common.{◌++◌, ◌∷◌, [], ◌∙◌, ap, arith, length, length-append, map, sym}
use Rattle.std.proofs.lemmas.List.{map-append}
use Rattle.maps.proofs.entries.fields.FieldsDoubleEndedIterator.next_back.Goals as goal

pub returns-in_err-next_back-clause-steps : goal.returns-in_err-next_back-clause-steps
returns-in_err-next_back-clause-steps g c =
    let steps = c.in_err-next_back.ensures.steps in
    let field = g.T.Field.field in
    rw c.from_residual.ensures (sym c.self.view_is ∙ ap (map field) steps.0, ap (map field) steps.1)

pub returns-clause-steps : goal.returns-clause-steps
returns-clause-steps g c =
    let field = g.T.Field.field in
    let rest = c.next_back.new.self in
    let entry = c.in_ok-next_back.field-0.now in
    sym c.self.view_is ∙ ap (map field) c.in_ok-next_back.ensures.steps ∙ map-append field rest (entry ∷ [])
    ∙ ap (λ x. map field rest ++ x ∷ []) (sym c.field.ensures)

pub returns-clause-goes : goal.returns-clause-goes
returns-clause-goes g c = record {
  on = λ finite. (
    tt,
    tt,
    omega (
      arith,
      ap (λ xs. length xs) (returns-clause-steps g c),
      length-append (map g.T.Field.field c.next_back.new.self) (c.field.result.now ∷ []),
    ),
  );
  keeps = tt;
  rests = λ finite. tt;
}
