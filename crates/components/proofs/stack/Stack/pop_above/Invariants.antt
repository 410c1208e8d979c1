use Rattle.std.proofs.Common.{◌≡◌, ℕ, ◌<◌, ◌≤◌}
use Rattle.matching.specs.Tables.{at}
use Rattle.components.proofs.stack.Stack.pop_above.Given as goal

abbrev pub invariant-loop-low : goal.invariant-loop-low
invariant-loop-low l =
    (l.self.slots.now ≡ l.initial.self.slots.now)
    × (l.self.len ≤ l.initial.self.len)
    × ((i : ℕ) → l.self.len ≤ i → i < l.initial.self.len → l.low < at l.self.slots.now i)

abbrev pub decreases-loop-low : goal.decreases-loop-low
decreases-loop-low l = l.self.len
