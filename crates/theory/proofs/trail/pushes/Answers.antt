use Rattle.theory.specs.Reach.{Along}
use Rattle.theory.specs.TrailTheorems.{Passed}
use Rattle.theory.proofs.Trails.{trail_pushes}
use Rattle.theory.proofs.trail.pushes.Goals as goal

pub returns : goal.returns
returns c edge past m seen done comp next pos node top cut path depth w t =
    trail_pushes (Along m edge) m (Passed past) seen done comp next pos node top cut path depth t w
