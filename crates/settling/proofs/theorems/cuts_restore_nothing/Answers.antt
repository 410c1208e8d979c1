use Rattle.settling.proofs.Laws.{cuts_restore_nothing}
use Rattle.settling.proofs.theorems.cuts_restore_nothing.Goals as goal

pub returns : goal.returns
returns c = cuts_restore_nothing
