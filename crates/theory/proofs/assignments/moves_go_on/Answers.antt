use Rattle.theory.proofs.Forests.{moving_goes_on}
use Rattle.theory.proofs.assignments.moves_go_on.Goals as goal

pub returns : goal.returns
returns c = moving_goes_on
