use Rattle.theory.proofs.Groups.{stuck_none}
use Rattle.theory.proofs.assignments.none_full.Goals as goal

pub returns : goal.returns
returns c = stuck_none
