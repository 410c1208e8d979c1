use Rattle.theory.specs.Reach.{Along}
use Rattle.theory.specs.TrailTheorems.{Passed}
use Rattle.theory.proofs.Trails.{trail_pops}
use Rattle.theory.proofs.trail.pops.Goals as goal

pub returns : goal.returns
returns c edge past m seen done comp next pos node top cut path depth d t =
    trail_pops (Along m edge) m (Passed past) seen done comp next pos node top cut path depth t d
