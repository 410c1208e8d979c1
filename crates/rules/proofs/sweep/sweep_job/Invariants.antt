use Rattle.std.proofs.Common.{◌≡◌, ℕ, ◌<◌, ◌≤◌, slice_index}
use Rattle.places.specs.Families.{family}
use Rattle.rules.specs.Sweeping.{Trimmed, SweptAt}
use Rattle.rules.specs.Triples.{triple, three_jobs}
use Rattle.rules.proofs.sweep.sweep_job.Given as goal

-- the list of the job still holds what is to come
abbrev pub invariant-loop-p : goal.invariant-loop-p
invariant-loop-p g l =
    let m = g.L.PlaceSet in
    let jobs = three_jobs l.rule in
    let admits = triple g.K.Relation.relates in
    let start = family m.has l.initial.lists in
    let here = family m.has l.lists in
    (l.p-iterator.from ≤ m.LIMIT)
    × Trimmed jobs admits start here
    × ((q : ℕ) → q < l.p-iterator.from → SweptAt jobs admits l.k q start here)
    × ((q : ℕ) → l.p-iterator.from ≤ q → here (slice_index jobs l.k) q ≡ m.has l.p-iterator.list.now q)
