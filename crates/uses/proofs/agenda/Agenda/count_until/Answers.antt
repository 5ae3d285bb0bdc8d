use Rattle.std.proofs.Common.{◌∙◌, ap, count_by, nat_le, sym}
use Rattle.uses.specs.declared.agenda.Appointment.{Appointment}
use Rattle.uses.proofs.InOrder.{count_is, has_cut}
use Rattle.uses.proofs.agenda.Agenda.count_until.Goals as goal

pub rank-requires : goal.rank-requires
rank-requires c =
    has_cut (λ a. a.time.minute) c.self.inside.appointments c.args.time.minute c.self.invariant

pub returns : goal.returns
returns c =
    let until = λ (a : Appointment). nat_le a.time.minute c.args.time.minute in
    sym (count_is until c.self.inside.appointments c.rank.result c.rank.ensures) ∙ ap (count_by until) c.self.view_is
