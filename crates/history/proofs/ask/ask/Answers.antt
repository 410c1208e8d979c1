use Rattle.std.proofs.Common.{length, refl}
use Rattle.board.specs.Book.{held_by}
use Rattle.board.specs.Lent.{lent}
use Rattle.history.specs.Calls.{kinds}
use Rattle.history.proofs.Asking.{tried, asked_group, settled_by}
use Rattle.history.proofs.ask.ask.Goals as goal

pub returns-in-Trial-clause-asked : goal.returns-in-Trial-clause-asked
returns-in-Trial-clause-asked g c =
    let K = kinds g.L.PlaceSet.has g.L.PlaceSet.LIMIT g.R.Rule.scope g.R.Rule.admits g.R.Rule.lawful g.R.Rule.names in
    let course = c.args.course in
    let l = lent course c.args.log.now (length c.args.standing.now) (length c.args.group.now) c.args.memory.now in
    rw c.in-Trial.is
    (tried K (held_by c.args.board.numbers) course.opened.now course.rules.now l c.args.log.now c.trial-free.new.log c.args.board.stage c.args.standing.now c.args.standing.now c.args.group.now c.args.group.now
    c.trial-free.result c.into.result c.in-Trial.job c.in-Trial.place c.into.ensures c.trial-free.ensures.answer c.trial-free.ensures.log)

pub returns-in-Group-clause-asked : goal.returns-in-Group-clause-asked
returns-in-Group-clause-asked g c =
    let K = kinds g.L.PlaceSet.has g.L.PlaceSet.LIMIT g.R.Rule.scope g.R.Rule.admits g.R.Rule.lawful g.R.Rule.names in
    let course = c.args.course in
    let l = lent course c.args.log.now (length c.args.standing.now) (length c.args.group.now) c.args.memory.now in
    rw c.in-Group.is
    (asked_group K (held_by c.args.board.numbers) course.opened.now course.rules.now l c.args.log.now c.args.log.now c.args.board.stage c.args.standing.now c.args.standing.now c.args.group.now c.group-found.new.table
    c.group-found.result c.into-in-Group.result c.in-Group.rule c.into-in-Group.ensures c.group-found.ensures.group)

pub returns-in-Settle-clause-asked : goal.returns-in-Settle-clause-asked
returns-in-Settle-clause-asked g c =
    let K = kinds g.L.PlaceSet.has g.L.PlaceSet.LIMIT g.R.Rule.scope g.R.Rule.admits g.R.Rule.lawful g.R.Rule.names in
    let course = c.args.course in
    let l = lent course c.args.log.now (length c.args.standing.now) (length c.args.group.now) c.args.memory.now in
    let e = c.settle.ensures in
    rw c.in-Settle.is
    (settled_by K (held_by c.args.board.numbers) course.opened.now course.rules.now l c.args.log.now c.args.log.now c.args.board.stage c.args.standing.now c.settle.new.standing c.args.group.now c.args.group.now
    c.settle.result c.args.board c.moved-in-Settle.result.0 c.moved-in-Settle.result.1 refl refl e.refusal e.board e.standing c.moved-in-Settle.ensures)
