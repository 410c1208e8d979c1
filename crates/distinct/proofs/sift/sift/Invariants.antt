use Rattle.std.proofs.Common.{◌≡◌, ℕ, ◌<◌, ◌≤◌, ◌&&◌}
use Rattle.distinct.specs.Divisions.{stays_in}
use Rattle.distinct.proofs.sift.sift.Given as goal

abbrev pub invariant-loop-place : goal.invariant-loop-place
invariant-loop-place g l =
    let has = g.L.PlaceSet.has in
    (l.place-iterator.list.now ≡ l.initial.list)
    × ((q : ℕ) → q < l.place-iterator.from → has l.list q ≡ (has l.initial.list q && stays_in l.division l.job q))
    × ((q : ℕ) → l.place-iterator.from ≤ q → has l.list q ≡ has l.initial.list q)
