use Rattle.std.proofs.Common.{◌≡◌, length}
use Rattle.places.specs.Families.{family}
use Rattle.rules.specs.Progressions.{jobs_of}
use Rattle.distinct.specs.Scopes.{Sifted}
use Rattle.distinct.specs.Divisions.{stays_in}
use Rattle.distinct.proofs.sift.sift_all.Given as goal

abbrev pub invariant-loop-i : goal.invariant-loop-i
invariant-loop-i g l =
    (l.i ≡ length l.yielded)
    × Sifted (jobs_of l.jobs) l.i (stays_in l.division)
    (family g.L.PlaceSet.has l.initial.lists) (family g.L.PlaceSet.has l.lists)
