use Rattle.settling.proofs.Laws.{converse_fails}
use Rattle.settling.proofs.theorems.converse_fails.Goals as goal

pub returns : goal.returns
returns c = converse_fails
