use Rattle.std.proofs.Common.{subst}
use Rattle.uses.proofs.InOrder.{IsPut, has_cut, put}
use Rattle.uses.proofs.agenda.Agenda.add.Goals as goal
use Rattle.uses.proofs.agenda.Agenda.add.Goals.{In_ok-put_in}

pub put_in-requires-clause-cut : goal.put_in-requires-clause-cut
put_in-requires-clause-cut c =
    has_cut (λ a. a.time.minute) c.self.inside.appointments c.args.appointment.time.minute c.self.invariant

done : (c : In_ok-put_in) → IsPut (λ a. a.time.minute) c.args.self.now c.put_in.new.self c.args.appointment
done c =
    let answered = c.in_ok-put_in in
    subst (λ es. IsPut (λ a. a.time.minute) es c.put_in.new.self c.args.appointment) c.self.view_is
    (put (λ a. a.time.minute) c.self.inside.appointments c.put_in.new.self c.args.appointment _ _ answered.field-0
    c.self.invariant answered.ensures.replaced answered.ensures.added)

pub invariant_of-self-2 : goal.invariant_of-self-2
invariant_of-self-2 c = (done c).rising

pub returns-clause-added : goal.returns-clause-added
returns-clause-added c = (done c).items
