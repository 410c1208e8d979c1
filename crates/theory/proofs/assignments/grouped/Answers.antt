use Rattle.theory.proofs.Groups.{stuck_group}
use Rattle.theory.proofs.assignments.grouped.Goals as goal

pub returns : goal.returns
returns c = stuck_group
