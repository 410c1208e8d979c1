use Rattle.std.proofs.Common.{◌≡◌, ◌<◌, ◌≤◌, length, take, refl, ◌∙◌, subst, arith}
use Rattle.board.specs.Lent.{lent}
use Rattle.history.specs.Calls.{kinds}
use Rattle.history.specs.History.{setting}
use Rattle.history.specs.Runs.{Run}
use Rattle.history.proofs.Runs.{in_run_more, in_run_all, setting_same}
use Rattle.history.proofs.run.carry_out.Goals as goal

pub loop-event-preserved : goal.loop-event-preserved
loop-event-preserved g c =
    let b = c.closed-board.result.numbers in
    let inv = c.loop-event.invariant.same in
    let m = c.loop-event.invariant.memory in
    let k = c.loop-event.auto in
    let e = c.carry-board.ensures in
    let course = c.args.course in
    let t : lent course c.loop-event.log (length c.loop-event.standing) (length c.loop-event.group) c.loop-event.memory
    ≡ lent course c.args.log.now (length c.args.standing.now) (length c.args.group.now) c.args.memory.now =
    λ i. record { opened = length course.opened.now; rules = length course.rules.now; log = k.log i; standing = k.standing i; group = k.group i; working = m.working i; numbers = m.numbers i; wakes = m.wake_ups i } in
    let same = setting_same _ b.n _ b.w _ b.rules course.opened.now course.rules.now _ _ inv.jobs inv.width inv.held t in
    let lt : c.loop-event.event-index < length c.loop-event.events = omega arith in
    record {
      same = record { jobs = e.same.jobs ∙ inv.jobs; width = e.same.width ∙ inv.width; held = e.same.held ∙ inv.held; counted = refl };
      memory = record { working = e.memory.working ∙ m.working; numbers = e.memory.numbers ∙ m.numbers; wake_ups = e.memory.wake_ups ∙ m.wake_ups };
      run = in_run_more _ _ _ _ _ _ _ _ _ _ _ _ _ _ _ _ _ _ _ _ _ c.loop-event.invariant.run lt e.call same e.step;
    }

pub returns-clause-run : goal.returns-clause-run
returns-clause-run g c =
    let K = kinds g.L.PlaceSet.has g.L.PlaceSet.LIMIT g.R.Rule.scope g.R.Rule.admits g.R.Rule.lawful g.R.Rule.names in
    let e = c.loop-event in
    let course = c.args.course in
    let tables = lent course c.args.log.now (length c.args.standing.now) (length c.args.group.now) c.args.memory.now in
    let past : length e.events ≤ e.event-index = omega arith in
    subst (λ v. Run K (setting v.n v.w course.opened.now (take v.rules course.rules.now) tables) c.args.events.now e.events e.board.numbers.cuts c.args.log.now e.log e.board.stage c.args.standing.now e.standing c.args.group.now e.group)
    c.closed-board.ensures.numbers (in_run_all _ _ _ _ _ _ _ _ _ _ _ _ _ e.invariant.run past)
