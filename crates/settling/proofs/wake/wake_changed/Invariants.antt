use Rattle.std.proofs.Common.{◌≡◌}
use Rattle.places.specs.Families.{family}
use Rattle.settling.proofs.Waking.{ChangesDone}
use Rattle.settling.proofs.wake.wake_changed.Given as goal

abbrev pub invariant-loop-j : goal.invariant-loop-j
invariant-loop-j g l =
    (l.agenda.rules ≡ l.initial.agenda.rules)
    × ChangesDone g.R.Rule.scope l.initial.agenda.rules g.L.PlaceSet.LIMIT (family g.L.PlaceSet.has l.lists) l.initial.noted l.j l.initial.agenda.line l.agenda.line l.noted
