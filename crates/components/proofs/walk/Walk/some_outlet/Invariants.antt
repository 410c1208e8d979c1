use Rattle.std.proofs.Common.{ℕ, ◌+◌, ◌<◌, ◌≤◌}
use Rattle.matching.specs.Tables.{at}
use Rattle.components.specs.Steps.{HasOutlet}
use Rattle.components.specs.States.{over}
use Rattle.components.proofs.walk.Walk.some_outlet.Given as goal

abbrev pub invariant-loop-job : goal.invariant-loop-job
invariant-loop-job g l = (y : ℕ) → l.from ≤ y → y < l.from + l.job-index → HasOutlet (over l.self) l.self.index.now l.self.labels.now (at l.self.nodes.slots.now y) → ⊥
