use Rattle.matching.specs.MatchingMut.{IsMatching, SameTables}
use Rattle.matching.proofs.Shifts.{Bare}
use Rattle.matching.proofs.matching.MatchingMut.take_free.Given as goal

abbrev pub invariant-loop-job : goal.invariant-loop-job
invariant-loop-job g l = record {
  matching : IsMatching g.J.Bipartite l.self;
  bare : Bare l.job l.self.places.now;
  same : SameTables l.initial.self l.self;
}
