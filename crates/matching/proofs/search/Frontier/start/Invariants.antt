use Rattle.std.proofs.Common.{◌≡◌, length}
use Rattle.matching.specs.Searching.{Rooted}
use Rattle.matching.proofs.Shifts.{Bare}
use Rattle.matching.proofs.search.Frontier.start.Given as goal

abbrev pub invariant-loop-job : goal.invariant-loop-job
invariant-loop-job g l = record {
  rooted : Rooted l.job l.matching.places.now l.self.parents.now l.self.waiting.now.entries;
  bare : Bare l.job l.self.parents.now;
  size : length l.self.parents.now ≡ length l.initial.self.parents.now;
  capacity : l.self.waiting.now.capacity ≡ l.initial.self.waiting.now.capacity;
  same : l.self.parents.ghost_name ≡ l.initial.self.parents.ghost_name;
}
