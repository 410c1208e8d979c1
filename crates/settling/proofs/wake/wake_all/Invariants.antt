use Rattle.std.proofs.Common.{◌≡◌}
use Rattle.settling.proofs.Waking.{AllDone}
use Rattle.settling.proofs.wake.wake_all.Given as goal

abbrev pub invariant-loop-i : goal.invariant-loop-i
invariant-loop-i g l = (l.agenda.rules ≡ l.initial.agenda.rules) × AllDone g.R.Rule.scope l.initial.agenda.rules l.i l.agenda.line
