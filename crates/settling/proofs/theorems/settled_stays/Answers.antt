use Rattle.settling.proofs.Laws.{settled_stays}
use Rattle.settling.proofs.theorems.settled_stays.Goals as goal

pub returns : goal.returns
returns c = settled_stays
