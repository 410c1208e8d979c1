use Rattle.std.proofs.Common.{◌≡◌}
use Rattle.settling.proofs.Waking.{JobDone}
use Rattle.settling.proofs.wake.wake_for_job.Given as goal

abbrev pub invariant-loop-i : goal.invariant-loop-i
invariant-loop-i g l = (l.agenda.rules ≡ l.initial.agenda.rules) × JobDone g.R.Rule.scope l.initial.agenda.rules l.job l.i l.initial.agenda.line l.agenda.line
