use Rattle.std.proofs.Common.{◌≡◌, ◌-◌}
use Rattle.theory.specs.Counts.{count}
use Rattle.matching.specs.Tables.{filled}
use Rattle.matching.specs.MatchingMut.{IsMatching, SameTables}
use Rattle.matching.proofs.jobs.match_jobs.Given as goal

abbrev pub invariant-loop-opening : goal.invariant-loop-opening
invariant-loop-opening g l = record {
  matching : IsMatching g.J.Bipartite l.matching;
  jobs : l.matching.jobs.now ≡ l.jobs;
  same : SameTables l.initial.matching l.matching;
}

abbrev pub decreases-loop-opening : goal.decreases-loop-opening
decreases-loop-opening g l = let j = g.J.Bipartite in j.jobs l.jobs - count (filled l.matching.places.now) (j.jobs l.jobs)
