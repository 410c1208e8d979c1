use Rattle.std.proofs.Common.{◌≡◌, ℕ, ◌<◌, ◌≢◌}
use Rattle.matching.specs.Tables.{at}
use Rattle.components.proofs.walk.label.Given as goal

abbrev pub invariant-loop-job : goal.invariant-loop-job
invariant-loop-job l = record {
  new : (y : ℕ) → y < l.job-index → at l.table (at l.job-items y) ≡ l.number;
  kept : (a : ℕ) → ((y : ℕ) → y < l.job-index → at l.job-items y ≢ a) → at l.table a ≡ at l.initial.table a;
}
