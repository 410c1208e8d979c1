use Rattle.std.proofs.Common.{nat_le, refl, sym, subst, ◌∙◌, rules, tests}
use Rattle.std.proofs.lemmas.Iterator.Adapters.{option_map_id}
use Rattle.std.proofs.lemmas.Iterator.Consumers.{YieldsList-from_first}
use Rattle.std.proofs.lemmas.Iterator.Search.{find_from_yields_List}
use Rattle.theory.specs.Lists.{member}
use Rattle.places.specs.Sets.{First}
use Rattle.places.specs.Fronts.{front_rises}
use Rattle.places.specs.Rising.{rising_rest}
use Rattle.places.proofs.Fronts.{next_first}
use Rattle.places.proofs.rising.first_from.Goals as goal

pub returns : goal.returns
returns c =
    let s = c.args.rising in
    let p = c.args.place in
    let found = find_from_yields_List (nat_le p) c.find.new.self _ c.find.result c.find.ensures.ran
    (YieldsList-from_first (λ x. x) rising_rest (rising_rest s) refl) (λ x b q k. search (rules, tests)) in
    subst (First (member (rising_rest s)) p) (sym found ∙ option_map_id c.find.result) (next_first s.low p (rising_rest s) (front_rises s.low s.rest.now))
