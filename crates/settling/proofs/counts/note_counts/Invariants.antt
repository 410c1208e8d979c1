use Rattle.places.specs.Families.{family}
use Rattle.settling.specs.Waking.{Noted}
use Rattle.settling.proofs.counts.note_counts.Given as goal

abbrev pub invariant-loop-j : goal.invariant-loop-j
invariant-loop-j g l = Noted l.j g.L.PlaceSet.LIMIT (family g.L.PlaceSet.has l.lists) l.noted
