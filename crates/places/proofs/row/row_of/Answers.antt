use Rattle.std.proofs.Common.{◌+◌, ◌||◌, ltb, get_or, drop, sym, ap, ◌∙◌}
use Rattle.std.proofs.lemmas.List.{at_drop_more, at_drop_all}
use Rattle.std.proofs.lemmas.Bool.{and_parts, ltb-true}
use Rattle.theory.specs.Lists.{member, all_below}
use Rattle.places.specs.Sets.{row_has}
use Rattle.places.proofs.Rows.{no_row, one_more, or_none}
use Rattle.places.proofs.row.row_of.Goals as goal

pub loop-place-init : goal.loop-place-init
loop-place-init c = (λ q. ap (λ b. b || member c.args.named.now q) (c.bit_of-row.ensures q ∙ no_row q), c.requires)

pub loop-place-preserved : goal.loop-place-preserved
loop-place-preserved c =
    let xs = c.args.named.now in
    let i = c.loop-place.place-index in
    let x = get_or xs i 0 in
    let rest = drop (i + 1) xs in
    let row = c.loop-place.row in
    let fit = and_parts (ltb x 64) (all_below 64 rest) (sym (at_drop_more (all_below 64) xs i 0 c.loop-place-test.true) ∙ c.loop-place.invariant.1) in (
      λ q. ap (λ b. b || member rest q) (c.joined-row.ensures q ∙ ap (λ b. row_has row q || b) (c.bit_of.ensures q))
          ∙ one_more (row_has row q) (member rest q) x q (ltb-true x 64 fit.0)
          ∙ ap (λ b. row_has row q || b) (sym (at_drop_more (λ ys. member ys q) xs i 0 c.loop-place-test.true))
          ∙ c.loop-place.invariant.0 q,
      fit.1,
    )

pub returns : goal.returns
returns c q =
    let row = c.loop-place.row in
    sym (or_none (row_has row q))
    ∙ ap (λ b. row_has row q || b) (sym (at_drop_all (λ ys. member ys q) c.args.named.now c.loop-place.place-index c.loop-place-test.false))
    ∙ c.loop-place.invariant.0 q
