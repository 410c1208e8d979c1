use Rattle.std.proofs.Common.{rules}
use Rattle.refusals.proofs.Faults.{passed}
use Rattle.rules.proofs.check.check_rules.Goals as goal

pub returns-clause-lawful : goal.returns-clause-lawful
returns-clause-lawful g c = passed (λ x. g.R.Rule.lawful x c.args.n) 12 c.args.rules.now c.check_each.result (search rules)
