use Rattle.std.proofs.Common.{◌≡◌, ℕ, ◌<◌, ◌≤◌, true, false}
use Rattle.rules.proofs.triple.any_place.Given as goal

abbrev pub invariant-loop-q : goal.invariant-loop-q
invariant-loop-q g l =
    let has = g.L.PlaceSet.has in
    (l.q-iterator.list.now ≡ l.list)
    × (l.q-iterator.from ≤ g.L.PlaceSet.LIMIT)
    × ((q : ℕ) → q < l.q-iterator.from → has l.list q ≡ true → goal.F-post g l.passes q false)
