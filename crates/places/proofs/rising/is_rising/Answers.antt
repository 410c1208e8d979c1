use Rattle.std.proofs.Common.{◌≡◌, length, nat_eq, inl, arith, ap, sym, subst}
use Rattle.std.proofs.lemmas.Iterator.Consumers.{YieldsList-from_first, count_from_yields_List}
use Rattle.places.specs.Needles.{front_part, rises}
use Rattle.places.specs.Rising.{rising_rest}
use Rattle.places.proofs.Fronts.{front_shorter, front_whole}
use Rattle.places.proofs.rising.is_rising.Goals as goal

pub count-requires-clause-fits : goal.count-requires-clause-fits
count-requires-clause-fits c = inl (omega (arith, ap length c.of.ensures, front_shorter 0 c.args.named.now))

pub returns : goal.returns
returns c =
    let xs = c.args.named.now in
    let n = count_from_yields_List _ c.count.result c.count.ensures.ran (YieldsList-from_first (λ x. x) rising_rest (front_part 0 xs) c.of.ensures) in
    subst (λ k. nat_eq k (length xs) ≡ rises 0 xs) (sym n) (front_whole 0 xs)
