use Rattle.std.proofs.Common.{◌≡◌}
use Rattle.matching.specs.Matching.{IsSearched}
use Rattle.matching.specs.Searching.{left}
use Rattle.matching.proofs.search.search.Given as goal

abbrev pub invariant-loop-job : goal.invariant-loop-job
invariant-loop-job g l =
    let jobs = g.J.Bipartite.jobs l.matching.jobs.now in
    record {
      state : IsSearched l.matching l.frontier.parents.now l.frontier.waiting.now.entries jobs 0;
      capacity : l.frontier.waiting.now.capacity ≡ l.initial.frontier.waiting.now.capacity;
      same : l.frontier.parents.ghost_name ≡ l.initial.frontier.parents.ghost_name;
    }

abbrev pub decreases-loop-job : goal.decreases-loop-job
decreases-loop-job g l = left (g.J.Bipartite.jobs l.matching.jobs.now) l.frontier.parents.now l.frontier.waiting.now.entries
