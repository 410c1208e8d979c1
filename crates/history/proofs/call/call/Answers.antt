use Rattle.std.proofs.Common.{◌≡◌, ◌++◌, length, drop, refl, ap, ◌∙◌}
use Rattle.board.specs.Lent.{lent}
use Rattle.history.specs.Calls.{kinds}
use Rattle.history.specs.History.{lent_to}
use Rattle.history.proofs.Steps.{step}
use Rattle.history.proofs.call.call.Goals as goal

pub returns-clause-step : goal.returns-clause-step
returns-clause-step g c =
    let b = c.args.board in
    let course = c.args.course in
    let log = c.args.log.now in
    let standing = c.args.standing.now in
    let group = c.args.group.now in
    let memory = c.args.memory.now in
    let f = c.fronts-ends.result in
    let fits : f ≡ lent_to c.args.call.lent (lent course log (length standing) (length group) memory) = c.fronts-ends.ensures ∙ ap (lent_to c.args.call.lent) c.lengths-tables.ensures in
    step (kinds g.L.PlaceSet.has g.L.PlaceSet.LIMIT g.R.Rule.scope g.R.Rule.admits g.R.Rule.lawful g.R.Rule.names)
    b.numbers.n b.numbers.w b.numbers.rules b.numbers.cuts c.ask.result.0.numbers.cuts course.opened.now course.rules.now
    log c.ask.new.log (c.ask.new.log ++ drop f.log log) b.stage c.ask.result.0.stage
    standing c.ask.new.standing (c.ask.new.standing ++ drop f.standing standing)
    group c.ask.new.group (c.ask.new.group ++ drop f.group group) memory.working.now memory.numbers.now memory.wake_ups.now
    c.args.call.lent f c.ask.result.1
    fits c.requires.held c.requires.counted c.ask.auto.standing c.ask.auto.group refl refl refl
    c.args.call.ask c.ask.ensures.asked
