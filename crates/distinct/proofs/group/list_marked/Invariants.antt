use Rattle.std.proofs.Common.{◌≡◌, ◌≤◌, take, drop}
use Rattle.matching.specs.Tables.{filled}
use Rattle.rules.specs.Progressions.{jobs_of}
use Rattle.distinct.specs.Scopes.{chosen}
use Rattle.distinct.proofs.group.list_marked.Given as goal

abbrev pub invariant-loop-i : goal.invariant-loop-i
invariant-loop-i l =
    (take l.len l.table ≡ chosen (jobs_of l.jobs) (filled l.marks) l.i)
    × (drop l.len l.table ≡ drop l.len l.initial.table)
    × (l.len ≤ l.i)
