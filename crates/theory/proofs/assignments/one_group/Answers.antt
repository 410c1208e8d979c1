use Rattle.theory.proofs.Existence.{group_exists, group_unique}
use Rattle.theory.proofs.assignments.one_group.Goals as goal

pub returns : goal.returns
returns c = λ P. (group_exists P, group_unique P)
