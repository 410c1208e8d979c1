use Rattle.std.proofs.Common.{inl, arith, refl, sym, ◌∙◌}
use Rattle.std.proofs.lemmas.Iterator.Consumers.{YieldsList-from_first, count_from_yields_List}
use Rattle.places.specs.Fronts.{front_rises}
use Rattle.places.specs.Rising.{rising_rest}
use Rattle.places.proofs.Fronts.{count_member}
use Rattle.places.proofs.rising.how_many.Goals as goal

pub count-requires-clause-fits : goal.count-requires-clause-fits
count-requires-clause-fits c = inl (omega (arith, c.requires))

pub overflow_cast-result : goal.overflow_cast-result
overflow_cast-result c =
    omega (arith, c.requires, count_from_yields_List _ c.count.result c.count.ensures.ran (YieldsList-from_first (λ x. x) rising_rest (rising_rest c.args.rising) refl))

pub returns : goal.returns
returns c =
    let s = c.args.rising in
    count_from_yields_List _ c.count.result c.count.ensures.ran (YieldsList-from_first (λ x. x) rising_rest (rising_rest s) refl)
    ∙ sym (count_member s.low (rising_rest s) (front_rises s.low s.rest.now))
