use Rattle.std.proofs.Common.{ℕ, length}
use Rattle.theory.specs.Forest.{Forest, climb}
use Rattle.theory.specs.SingleRows.{single}
use Rattle.matching.specs.Tables.{at, filled}
use Rattle.matching.specs.MatchingMut.{SameTables}
use Rattle.matching.proofs.Shifts.{Shifting}
use Rattle.matching.proofs.matching.MatchingMut.shift.Given as goal

abbrev pub invariant-loop-left : goal.invariant-loop-left
invariant-loop-left g l =
    let j = g.J.Bipartite in
    let jobs = l.initial.self.jobs.now in
    let before = l.initial.self.places.now in
    record {
      rank : ℕ → ℕ;
      forest : Forest (single (j.jobs jobs) (j.width jobs) (j.holds jobs)) (filled before) (at before) (filled l.parents) (at l.parents) rank;
      moves : Shifting (j.jobs jobs) (j.width jobs) (j.holds jobs) rank before l.parents l.self.places.now l.self.holders.now l.job l.free;
      same : SameTables l.initial.self l.self;
    }

abbrev pub decreases-loop-left : goal.decreases-loop-left
decreases-loop-left g l = climb (filled l.initial.self.places.now) (at l.parents) (length l.parents) l.job
