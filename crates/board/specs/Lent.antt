-- How long the tables are that a call is lent.
use Rattle.std.specs.Prelude.{◌≡◌, ℕ, List, length}
use Rattle.cuts.specs.declared.cut.Cut.{Cut}
use Rattle.board.specs.declared.course.Course.{Course}
use Rattle.board.specs.declared.course.Memory.{Memory}
use Rattle.board.specs.declared.lengths.Lengths.{Lengths}
use Rattle.board.specs.Outcomes.{lengths}

-- a course, a log, so many standing lists, a group table of so many slots, and working memory
abbrev pub lent : {L R : Type 0} → Course L R → List Cut → ℕ → ℕ → Memory L → Lengths
lent course log standing group memory =
    lengths (length course.opened.now) (length course.rules.now) (length log) standing group
    (length memory.working.now) (length memory.numbers.now) (length memory.wake_ups.now)

-- the same for a group question whose working numbers count as so many in total
abbrev pub lent_with : {L R : Type 0} → ℕ → Course L R → List Cut → ℕ → Memory L → Lengths
lent_with total course log group memory = record (lent course log 0 group memory) { numbers = total }

-- working memory keeps its lengths
pub record KeepsLengths {L : Type 0} (before after : Memory L) : Type 0 where
  pub working : length after.working.now ≡ length before.working.now
  pub numbers : length after.numbers.now ≡ length before.numbers.now
  pub wake_ups : length after.wake_ups.now ≡ length before.wake_ups.now
