use Rattle.std.proofs.Common.{◌∙◌}
use Rattle.std.proofs.lemmas.List.{length-take-le}
use Rattle.board.proofs.Settlings.{reached}
use Rattle.board.proofs.numbers.Numbers.settle_current.Goals as goal

pub returns-clause-reached : goal.returns-clause-reached
returns-clause-reached g c =
    let n = c.args.self.now.n in
    let e = c.settle.ensures in
    let size = c.write_current.auto.lists ∙ length-take-le n c.args.memory.now.working.now c.requires.working in
    reached g.L.PlaceSet.has g.R.Rule.scope g.R.Rule.admits _ n _ _ _ _ _ c.settle.result size (c.settle.auto.lists ∙ size) c.write_current.ensures
    e.settled e.lowest e.placings
