use Rattle.board.specs.Outcomes.{Same}
use Rattle.history.proofs.Offers.{InFilling}
use Rattle.history.proofs.offer.make_offers.Given as goal

abbrev pub invariant-loop-offer : goal.invariant-loop-offer
invariant-loop-offer g l =
    let a = l.initial.board.numbers in
    let b = l.board.numbers in record {
      same : Same a b.rules a.cuts b;
      filled : InFilling g.R.Rule.lawful a.n a.w l.initial.offers l.offers l.offer-index b.rules l.initial.rules l.rules;
    }
