use Rattle.std.proofs.Common.{◌≡◌, drop}
use Rattle.places.specs.Families.{family}
use Rattle.cuts.specs.Current.{current}
use Rattle.cuts.proofs.current.write_current.Given as goal

abbrev pub invariant-loop-cut : goal.invariant-loop-cut
invariant-loop-cut g l =
    let has = g.L.PlaceSet.has in
    current (family has l.lists) (drop l.cut-index l.cuts) ≡ current (family has l.opened) l.cuts
