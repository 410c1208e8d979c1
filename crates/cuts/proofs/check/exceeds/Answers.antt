use Rattle.std.proofs.Common.{◌∙◌}
use Rattle.cuts.proofs.Widths.{exceeds_is}
use Rattle.cuts.proofs.check.exceeds.Goals as goal

pub returns : goal.returns
returns g c =
    let m = g.L.PlaceSet in
    let x = c.args.list.now in
    c.is_some.ensures ∙ exceeds_is m.LIMIT c.args.width (m.has x) c.next_from.result (g.met.L.PlaceSet.within x) c.next_from.ensures.first
