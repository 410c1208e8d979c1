use Rattle.std.proofs.Common.{◌≡◌, ◌+◌, ◌≤◌, length, map}
use Rattle.std.specs.Iterator.{size}
use Rattle.places.specs.Needles.{padded}
use Rattle.places.proofs.rising.stored.Given as goal

abbrev pub invariant-loop-i : goal.invariant-loop-i
invariant-loop-i g l =
    (goal.iterator-loop-i g).can_next l.i-iterator
    × (goal.iterator-loop-i g).is_finite l.i-iterator
    × (l.stored ≡ padded (map (λ p. p.1) l.yielded))
    × (l.i-iterator.count ≡ length l.yielded)
    × (l.i-iterator.count + size (g.I.Iterator.remaining l.i-iterator.iter) ≤ 8)
