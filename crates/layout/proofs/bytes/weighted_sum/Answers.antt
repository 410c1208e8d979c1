use Rattle.std.proofs.Common.{◌<◌, length, refl, ◌∙◌, sym, arith, rules, mul-le-mul}
use Rattle.std.specs.List.{enumerate_from}
use Rattle.std.proofs.lemmas.Iterator.{YieldsList-from_slice, YieldsList-from_map}
use Rattle.std.proofs.lemmas.Iterator.Adapters.{serves_from_places}
use Rattle.std.proofs.lemmas.Iterator.Consumers.{YieldsList-at, YieldsList-from_enumerate, sum_by_from_yields_List, fits_by_from_yields_list}
use Rattle.layout.proofs.Laws.{weight, byte_at, sum_by-weight-le, weighted_all}
use Rattle.layout.proofs.bytes.weighted_sum.Goals as goal

pub sum-requires-clause-can : goal.sum-requires-clause-can
sum-requires-clause-can c = (
  search rules,
  serves_from_places
      (YieldsList-at c.map.ensures.source (YieldsList-from_enumerate (YieldsList-from_slice c.args.bytes.now cc) (cc)))
      (λ x q r. refl)
      (λ x k l e.
      let b : (x.0 < length c.args.bytes.now) × (x.1.now < 256) = byte_at c.args.bytes.now (x.0, x.1.now) k c.type_inv.bytes l e in
      search (rules, mul-le-mul)),
)

pub sum-requires-clause-fits : goal.sum-requires-clause-fits
sum-requires-clause-fits c =
    fits_by_from_yields_list weight (enumerate_from 0 c.args.bytes.now) c.map.result _
    (YieldsList-from_map _ weight
    (YieldsList-at c.map.ensures.source (YieldsList-from_enumerate (YieldsList-from_slice c.args.bytes.now cc) (cc)))
    c.map.ensures.closure (λ x r q k. search rules))
    (omega (arith, sum_by-weight-le 0 c.args.bytes.now c.type_inv.bytes (omega arith)))

pub returns : goal.returns
returns c =
    sum_by_from_yields_List weight (enumerate_from 0 c.args.bytes.now) c.map.result _ c.sum.ensures.ran
    (YieldsList-from_map _ weight
    (YieldsList-at c.map.ensures.source (YieldsList-from_enumerate (YieldsList-from_slice c.args.bytes.now cc) (cc)))
    c.map.ensures.closure (λ x r q k. search rules))
    ∙ sym (weighted_all c.args.bytes.now)
