use Rattle.theory.proofs.Moves.{augment}
use Rattle.theory.proofs.assignments.augments.Goals as goal

pub returns : goal.returns
returns c = augment
