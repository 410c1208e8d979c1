use Rattle.theory.specs.Reach.{Along}
use Rattle.theory.specs.TrailTheorems.{Passed}
use Rattle.theory.proofs.Trails.{trail_joins}
use Rattle.theory.proofs.trail.joins.Goals as goal

pub returns : goal.returns
returns c edge past m seen done comp next pos node top cut cut' path depth d xb t =
    trail_joins (Along m edge) m (Passed past) seen done comp next pos node top cut path depth t cut' d xb
