use Rattle.theory.proofs.Bounds.{bound, deficiency_bound}
use Rattle.theory.proofs.assignments.bounded.Goals as goal

pub returns : goal.returns
returns c = λ P A S f v. (bound P A S f v, deficiency_bound P A S f v)
