use Rattle.std.proofs.Common.{arith}
use Rattle.settling.proofs.Agendas.{agreed_new}
use Rattle.settling.proofs.agenda.Agenda.new.Goals as goal

pub invariant_of-result : goal.invariant_of-result
invariant_of-result g c = agreed_new g.R.Rule.scope c.args.rules.now c.new.result.capacity c.new.result.entries c.requires.few (omega (arith, c.requires.room, c.new.ensures.capacity)) c.new.ensures.empty
