use Rattle.std.proofs.Common.{◌≡◌, ◌≤◌, true}
use Rattle.matching.specs.Tables.{filled}
use Rattle.matching.specs.Matching.{IsSearched}
use Rattle.matching.specs.Searching.{left}
use Rattle.matching.proofs.search.Frontier.scan.Given as goal

abbrev pub invariant-loop-place : goal.invariant-loop-place
invariant-loop-place g l =
    let j = g.J.Bipartite in
    let jobs = l.matching.jobs.now in
    record {
      jobs_are : l.place-iterator.jobs.now ≡ jobs;
      job_is : l.place-iterator.job ≡ l.job;
      state : IsSearched l.matching l.self.parents.now l.self.waiting.now.entries l.job l.place-iterator.from;
      seen : filled l.self.parents.now l.job ≡ true;
      less : left (j.jobs jobs) l.self.parents.now l.self.waiting.now.entries ≤ left (j.jobs jobs) l.initial.self.parents.now l.initial.self.waiting.now.entries;
      capacity : l.self.waiting.now.capacity ≡ l.initial.self.waiting.now.capacity;
      same : l.self.parents.ghost_name ≡ l.initial.self.parents.ghost_name;
    }
