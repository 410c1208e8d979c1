use Rattle.theory.proofs.Bounds.{no_support}
use Rattle.theory.proofs.assignments.unsupported.Goals as goal

pub returns : goal.returns
returns c = no_support
