use Rattle.std.proofs.Common.{◌++◌, drop, refl}
use Rattle.history.proofs.Offers.{answer_of, offer_made}
use Rattle.history.proofs.offer.make_offer.Goals as goal

pub returns-clause-offered : goal.returns-clause-offered
returns-clause-offered g c =
    let e = c.add_rule.ensures in
    let f = c.min-lent.result in
    let table = c.args.rules.now in
    offer_made g.R.Rule.lawful c.args.board.now.numbers c.add_rule.new.self.numbers f c.args.offer.now table
    c.add_rule.new.rules (c.add_rule.new.rules ++ drop f table) c.into-offer.result c.min-lent.ensures c.requires refl
    c.add_rule.result e.refusal (answer_of c.add_rule.result c.into-offer.result c.into-offer.ensures) e.rules
