use Rattle.theory.proofs.Forests.{moving_starts}
use Rattle.theory.proofs.assignments.moves_start.Goals as goal

pub returns : goal.returns
returns c = moving_starts
