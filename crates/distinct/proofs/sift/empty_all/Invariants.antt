use Rattle.std.proofs.Common.{false, length}
use Rattle.places.specs.Families.{family}
use Rattle.rules.specs.Progressions.{jobs_of}
use Rattle.distinct.specs.Scopes.{Sifted}
use Rattle.distinct.proofs.sift.empty_all.Given as goal

abbrev pub invariant-loop-job : goal.invariant-loop-job
invariant-loop-job g l =
    Sifted (jobs_of l.jobs) (length l.yielded) (λ k q. false)
    (family g.L.PlaceSet.has l.initial.lists) (family g.L.PlaceSet.has l.lists)
