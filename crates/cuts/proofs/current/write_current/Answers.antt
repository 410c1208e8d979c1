use Rattle.std.proofs.Common.{◌+◌, drop, sym, ap, ◌∙◌}
use Rattle.std.proofs.lemmas.List.{at_drop_more, at_drop_all}
use Rattle.places.specs.Families.{family}
use Rattle.cuts.specs.Current.{current}
use Rattle.cuts.proofs.current.write_current.Goals as goal

pub loop-cut-preserved : goal.loop-cut-preserved
loop-cut-preserved g c =
    let rest = drop (c.loop-cut.cut-index + 1) c.args.cuts.now in
    ap (λ f. current f rest) c.carry.ensures
    ∙ sym (at_drop_more (current (family g.L.PlaceSet.has c.loop-cut.lists)) c.args.cuts.now c.loop-cut.cut-index _ c.loop-cut-test.true)
    ∙ c.loop-cut.invariant

pub returns : goal.returns
returns g c =
    sym (at_drop_all (current (family g.L.PlaceSet.has c.loop-cut.lists)) c.args.cuts.now c.loop-cut.cut-index c.loop-cut-test.false) ∙ c.loop-cut.invariant
