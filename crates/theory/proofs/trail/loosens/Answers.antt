use mathlib.Core.Path.{◌≡◌}
use mathlib.Core.Bool.{true}
use Rattle.theory.specs.Reach.{Along}
use Rattle.theory.proofs.Trails.{loosened_more}
use Rattle.theory.proofs.trail.loosens.Goals as goal

pub returns : goal.returns
returns c edge exits m done done' loose loose' member flag =
    loosened_more (Along m edge) (λ a. exits a ≡ true) m done done' loose loose' (λ a. member a ≡ true) flag
