use Rattle.std.proofs.Common.{◌==◌, refl, rules, tests}
use Rattle.std.proofs.lemmas.Iterator.Consumers.{YieldsList-from_first}
use Rattle.std.proofs.lemmas.Iterator.Search.{any_from_yields_List}
use Rattle.places.specs.Rising.{rising_rest}
use Rattle.places.proofs.rising.has_place.Goals as goal

pub returns : goal.returns
returns c =
    any_from_yields_List (λ x. c.args.place == x) c.any.new.self _ c.any.result c.any.ensures.ran
    (YieldsList-from_first (λ x. x) rising_rest (rising_rest c.args.rising) refl) (λ x b q k. search (rules, tests))
