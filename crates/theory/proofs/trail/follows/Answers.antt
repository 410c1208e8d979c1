use Rattle.theory.specs.Reach.{Along}
use Rattle.theory.specs.TrailTheorems.{Passed}
use Rattle.theory.proofs.Trails.{trail_follows}
use Rattle.theory.proofs.trail.follows.Goals as goal

pub returns : goal.returns
returns c edge past past' m seen done comp next pos node top cut path depth xa b t =
    trail_follows (Along m edge) m (Passed past) seen done comp next pos node top cut path depth t (Passed past') xa b
