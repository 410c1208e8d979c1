use Rattle.settling.proofs.Laws.{placings_stay, missing_unused}
use Rattle.settling.proofs.theorems.placings_stay.Goals as goal

pub returns : goal.returns
returns c = record { stay = placings_stay; unused = missing_unused }
