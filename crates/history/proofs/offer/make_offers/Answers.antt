use Rattle.std.proofs.Common.{◌<◌, length, refl, ◌∙◌, arith}
use Rattle.history.proofs.Offers.{filling_more}
use Rattle.history.proofs.offer.make_offers.Goals as goal

pub loop-offer-preserved : goal.loop-offer-preserved
loop-offer-preserved g c =
    let inv = c.loop-offer.invariant.same in
    let e = c.make_offer.ensures in
    let lt : c.loop-offer.offer-index < length c.loop-offer.offers = omega arith in
    record {
      same = record { jobs = e.same.jobs ∙ inv.jobs; width = e.same.width ∙ inv.width; held = refl; counted = e.same.counted ∙ inv.counted };
      filled = filling_more _ _ _ _ _ _ _ _ _ c.make_offer.new.board.numbers.rules _ _ c.make_offer.new.rules c.make_offer.new.offer c.offer-item.result c.loop-offer.invariant.filled lt inv.jobs inv.width e.offered;
    }
