use Rattle.theory.proofs.Supports.{support}
use Rattle.theory.proofs.assignments.supported.Goals as goal

pub returns : goal.returns
returns c = support
