use Rattle.std.proofs.Common.{length, take}
use Rattle.board.specs.Lent.{lent, KeepsLengths}
use Rattle.board.specs.Outcomes.{Same}
use Rattle.history.specs.Calls.{kinds}
use Rattle.history.specs.History.{setting}
use Rattle.history.proofs.Runs.{InRun}
use Rattle.history.proofs.run.carry_out.Given as goal

abbrev pub invariant-loop-event : goal.invariant-loop-event
invariant-loop-event g l =
    let K = kinds g.L.PlaceSet.has g.L.PlaceSet.LIMIT g.R.Rule.scope g.R.Rule.admits g.R.Rule.lawful g.R.Rule.names in
    let b = l.initial.board.numbers in
    let tables = lent l.course l.initial.log (length l.initial.standing) (length l.initial.group) l.initial.memory in record {
      same : Same b b.rules l.board.numbers.cuts l.board.numbers;
      memory : KeepsLengths l.initial.memory l.memory;
      run : InRun K (setting b.n b.w l.course.opened.now (take b.rules l.course.rules.now) tables) l.initial.events l.events l.event-index l.board.numbers.cuts
          l.initial.log l.log l.board.stage l.initial.standing l.standing l.initial.group l.group;
    }
