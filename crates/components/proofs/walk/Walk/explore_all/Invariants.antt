use Rattle.std.proofs.Common.{◌≡◌, ℕ, ◌<◌, true}
use Rattle.matching.specs.Tables.{filled}
use Rattle.components.specs.States.{GoesOn}
use Rattle.components.proofs.walk.Walk.explore_all.Given as goal

abbrev pub invariant-loop-root : goal.invariant-loop-root
invariant-loop-root g l = GoesOn l.initial.self l.self × (l.self.path.len ≡ 0) × ((a : ℕ) → a < l.root → filled l.self.index.now a ≡ true)
