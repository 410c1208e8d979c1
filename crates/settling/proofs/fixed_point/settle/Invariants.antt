use Rattle.std.proofs.Common.{◌≡◌, length}
use Rattle.places.specs.Families.{family}
use Rattle.settling.specs.Waking.{Noted}
use Rattle.settling.proofs.Counting.{total, measure}
use Rattle.settling.proofs.Waking.{Progress}
use Rattle.settling.proofs.fixed_point.settle.Given as goal

abbrev pub invariant-loop-wake_up : goal.invariant-loop-wake_up
invariant-loop-wake_up g l =
    let r = g.R.Rule in
    let m = g.L.PlaceSet in
    (l.agenda.rules ≡ l.rules)
    × Progress r.scope r.admits l.rules (family m.has l.initial.lists) (family m.has l.lists) l.agenda.line
    × Noted (length l.lists) m.LIMIT (family m.has l.lists) l.noted

abbrev pub decreases-loop-wake_up : goal.decreases-loop-wake_up
decreases-loop-wake_up g l = measure (total g.L.PlaceSet.has g.L.PlaceSet.LIMIT l.lists) (length l.rules) (length l.agenda.line)
