use Rattle.settling.proofs.Agendas.{taken_one, agreed_within}
use Rattle.settling.proofs.agenda.Agenda.take_next.Goals as goal

pub returns-clause-taken : goal.returns-clause-taken
returns-clause-taken g c = rw (← c.self.view_is) (taken_one c.self.invariant c.in_ok-wake_up.wake_up _ c.in_ok-wake_up.ensures.oldest)

pub returns-clause-within : goal.returns-clause-within
returns-clause-within g c = rw (← c.self.view_is) (agreed_within c.self.invariant)
