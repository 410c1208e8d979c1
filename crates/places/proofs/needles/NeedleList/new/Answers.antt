use Rattle.std.proofs.Common.{rules}
use Rattle.std.proofs.lemmas.Iterator.{YieldsList-from_slice}
use Rattle.std.proofs.lemmas.Iterator.Consumers.{YieldsList-from_copied}
use Rattle.places.proofs.Fronts.{stored_set}
use Rattle.places.proofs.needles.NeedleList.new.Goals as goal

pub returns-clause-holds : goal.returns-clause-holds
returns-clause-holds c = stored_set c.stored.result c.args.named.now c.stored.ensures (YieldsList-from_copied (YieldsList-from_slice c.args.named.now (cc))) (search rules)
