use Rattle.settling.proofs.Laws.{order_free}
use Rattle.settling.proofs.theorems.order_is_free.Goals as goal

pub returns : goal.returns
returns c = order_free
