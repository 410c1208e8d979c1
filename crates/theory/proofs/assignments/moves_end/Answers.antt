use Rattle.theory.proofs.Forests.{moving_ends}
use Rattle.theory.proofs.assignments.moves_end.Goals as goal

pub returns : goal.returns
returns c = moving_ends
