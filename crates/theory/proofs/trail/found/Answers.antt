use mathlib.Core.Path.{refl}
use Rattle.theory.specs.Reach.{Along}
use Rattle.theory.specs.TrailTheorems.{Passed}
use Rattle.theory.proofs.Trails.{trail_done}
use Rattle.theory.proofs.trail.found.Goals as goal

pub returns : goal.returns
returns c edge past m seen done comp next pos node top cut path t all =
    let every = trail_done (Along m edge) m (Passed past) seen done comp next pos node top cut path 0 t refl all in
    (λ a b r. (t.closed a b r.0 r.1 (every a r.0) r).1, λ a b la lb e. t.linked a b la lb (every a la) (every b lb) e)
