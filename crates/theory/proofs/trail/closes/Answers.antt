use Rattle.theory.specs.Reach.{Along}
use Rattle.theory.specs.TrailTheorems.{Passed}
use Rattle.theory.proofs.Trails.{trail_closes}
use Rattle.theory.proofs.trail.closes.Goals as goal

pub returns : goal.returns
returns c edge past m seen done done' comp comp' next pos pos' node top cut cut' path depth d t =
    trail_closes (Along m edge) m (Passed past) seen done comp next pos node top cut path depth t done' comp' pos' cut' d
