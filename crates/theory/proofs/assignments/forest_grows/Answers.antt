use Rattle.theory.proofs.Forests.{forest_grows}
use Rattle.theory.proofs.assignments.forest_grows.Goals as goal

pub returns : goal.returns
returns c = forest_grows
