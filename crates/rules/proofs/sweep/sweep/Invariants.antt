use Rattle.std.proofs.Common.{ℕ, ◌<◌}
use Rattle.places.specs.Families.{family}
use Rattle.rules.specs.Sweeping.{Trimmed, Swept}
use Rattle.rules.specs.Triples.{triple, three_jobs}
use Rattle.rules.proofs.sweep.sweep.Given as goal

abbrev pub invariant-loop-k : goal.invariant-loop-k
invariant-loop-k g l =
    let m = g.L.PlaceSet in
    let admits = triple g.K.Relation.relates in
    let start = family m.has l.initial.lists in
    let here = family m.has l.lists in
    Trimmed (three_jobs l.rule) admits start here
    × ((i : ℕ) → i < l.k → Swept (three_jobs l.rule) admits i start here)
