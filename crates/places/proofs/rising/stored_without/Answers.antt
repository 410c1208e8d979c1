use Rattle.std.proofs.Common.{ℕ, Bool, not, filter, length, ◌==◌, ap, refl, ◌∙◌, arith, rules, tests}
use Rattle.std.proofs.lemmas.Iterator.Consumers.{YieldsList-at, YieldsList-from_filter, YieldsList-from_first}
use Rattle.places.specs.declared.rising.Rising.{Rising}
use Rattle.places.specs.Fronts.{front_rises}
use Rattle.places.specs.Rising.{rising_rest}
use Rattle.places.proofs.Fronts.{filtered_rises, member_filtered, rises_lower, stored_set}
use Rattle.places.proofs.rising.stored_without.Goals as goal

pub stored-requires-clause-few : goal.stored-requires-clause-few
stored-requires-clause-few c = (tt, omega (arith, ap (λ (s : Rising). length (rising_rest s)) c.filter.ensures.source, c.requires))

pub returns : goal.returns
returns c q =
    let s = c.args.rising in
    let ys = rising_rest s in
    let f : ℕ → Bool = λ held. not (held == c.args.place) in
    let wider = filtered_rises f s.low ys (front_rises s.low s.rest.now) in
    stored_set c.stored.result (filter f ys) c.stored.ensures
    (YieldsList-from_filter _ f (YieldsList-at c.filter.ensures.source (YieldsList-from_first (λ x. x) rising_rest ys refl)) c.filter.ensures.closure (λ x b q k. search (rules, tests)))
    (rises_lower 0 s.low (filter f ys) (omega arith) wider) q
    ∙ member_filtered f ys q
