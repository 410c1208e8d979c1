use Rattle.std.proofs.Common.{◌≡◌, true}
use Rattle.matching.specs.Tables.{filled}
use Rattle.components.specs.Walks.{effort}
use Rattle.components.specs.States.{GoesOn, over}
use Rattle.components.proofs.walk.Walk.explore.Given as goal

abbrev pub invariant-loop-last : goal.invariant-loop-last
invariant-loop-last g l = GoesOn l.fn.self l.self × (filled l.self.index.now l.root ≡ true)

abbrev pub decreases-loop-last : goal.decreases-loop-last
decreases-loop-last g l = effort (over l.self).jobs l.self.cursors.now l.self.path.len
