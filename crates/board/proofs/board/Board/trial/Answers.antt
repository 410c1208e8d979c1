use Rattle.std.proofs.Common.{◌∙◌}
use Rattle.board.specs.Book.{held_by}
use Rattle.board.specs.Lent.{lent}
use Rattle.board.proofs.Trials.{put_back, counted_cuts, passes, with_trial, decided}
use Rattle.board.proofs.board.Board.trial.Goals as goal

pub returns-in_err-check_held-clause-log : goal.returns-in_err-check_held-clause-log
returns-in_err-check_held-clause-log g c = c.drop-guard.ensures ∙ put_back _ _ _ _

pub returns-clause-answer : goal.returns-clause-answer
returns-clause-answer g c =
    let b = c.args.self.now.numbers in
    let log = c.args.log.now in
    let course = c.args.course in
    let e = c.in_ok-check_trial.ensures in
    let reach = with_trial g.L.PlaceSet.has g.R.Rule.scope g.R.Rule.admits b.n b.cuts c.args.job c.args.place course.opened.now _ log
    c.front-2.result.now _ _ e.room.0 c.front-2.ensures c.settle_current-short.ensures.reached in (
      passes g.L.PlaceSet.has g.L.PlaceSet.LIMIT g.R.Rule.lawful (held_by b) course.opened.now course.rules.now log c.front.result.now (lent course log 0 0 c.args.memory.now) c.args.job c.args.place
          e.refusal.0 (counted_cuts log _ b.cuts _ c.front.ensures) c.in_ok-check_held.ensures.refusal e.refusal.1,
      decided g.L.PlaceSet.has g.R.Rule.scope g.R.Rule.admits _ b.n _ _ c.settle_current-short.result c.is_none.result c.is_none.ensures reach,
    )

pub returns-clause-log : goal.returns-clause-log
returns-clause-log g c = c.drop-guard-2.ensures ∙ put_back _ _ _ _
