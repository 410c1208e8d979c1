use Rattle.std.proofs.Common.{rules, of_calls, Some, None, ap, ◌∙◌, refl}
use Rattle.std.proofs.lemmas.Iterator.{YieldsList-from_slice}
use Rattle.std.proofs.lemmas.Iterator.Adapters.{serves_from_places}
use Rattle.std.proofs.lemmas.Iterator.Search.{position_from_yields_List}
use Rattle.std.proofs.lemmas.Fn.{says_at}
use Rattle.refusals.proofs.Faults.{fault_position}
use Rattle.refusals.proofs.check.check_each.Goals as goal

pub returns-in-Some : goal.returns-in-Some
returns-in-Some g c bad number tells names =
    let at = position_from_yields_List bad _ _ (Some c.in-Some.i) c.in-Some.ensures.ran (YieldsList-from_slice c.args.items.now c.iter.ensures.rest) (λ x b q k. (search rules, tells x.now b (says_at g.F.Fn {y = x} (search rules) refl))) in
    ap Some (names c.in-Some.i c.refusal_at.result (search rules) (search rules)) ∙ fault_position bad number c.args.items.now (Some c.in-Some.i) at

pub returns-in-None : goal.returns-in-None
returns-in-None g c bad number tells names =
    let at = position_from_yields_List bad _ _ None c.in-None.ensures.ran (YieldsList-from_slice c.args.items.now c.iter.ensures.rest) (λ x b q k. (search rules, tells x.now b (says_at g.F.Fn {y = x} (search rules) refl))) in
    fault_position bad number c.args.items.now None at

pub position-requires-clause-callable : goal.position-requires-clause-callable
position-requires-clause-callable g c = serves_from_places (YieldsList-from_slice c.args.items.now c.iter.ensures.rest) (λ x q k. search rules) (λ x k l e. search (rules, of_calls))
