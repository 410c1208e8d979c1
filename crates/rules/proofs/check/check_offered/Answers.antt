use Rattle.std.proofs.Common.{refl, zero-add}
use Rattle.std.proofs.lemmas.Result.{err_from_is_err_and}
use Rattle.refusals.proofs.Faults.{fault_push}
use Rattle.rules.specs.Refusals.{unlawful}
use Rattle.rules.proofs.check.check_offered.Goals as goal

pub returns-in_err-check_rules : goal.returns-in_err-check_rules
returns-in_err-check_rules g c =
    let p = err_from_is_err_and c.from_residual.result c.from_residual.ensures.1 in
    rw (p.1, p.2, fault_push (unlawful g.R.Rule.lawful c.args.n) 12 0 c.args.rules.now c.args.rule.now, ← c.in_err-check_rules.ensures.refusal) refl

pub returns-then-not-is_lawful : goal.returns-then-not-is_lawful
returns-then-not-is_lawful g c =
    rw (fault_push (unlawful g.R.Rule.lawful c.args.n) 12 0 c.args.rules.now c.args.rule.now, ← c.in_ok-check_rules.ensures.refusal, ← c.if-not-is_lawful.ensures.value, zero-add) refl

pub returns : goal.returns
returns g c =
    rw (fault_push (unlawful g.R.Rule.lawful c.args.n) 12 0 c.args.rules.now c.args.rule.now, ← c.in_ok-check_rules.ensures.refusal, ← c.if-not-is_lawful.ensures.value) refl
