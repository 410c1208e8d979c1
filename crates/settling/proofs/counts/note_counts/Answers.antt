use Rattle.std.proofs.Common.{◌<◌, ◌≢◌, length, ap, ◌∙◌, arith, get_or-set_other, get_or-set_same, below_more}
use Rattle.theory.specs.Counts.{count}
use Rattle.places.proofs.Families.{family_list}
use Rattle.settling.proofs.counts.note_counts.Goals as goal

pub loop-j-preserved : goal.loop-j-preserved
loop-j-preserved g c =
    let m = g.L.PlaceSet in
    let j = c.loop-j.j in
    let within : j < length c.loop-j.noted = omega arith in
    let here = family_list m.has c.args.lists.now j c.index-lists-j.result c.loop-j-test.true c.index-lists-j.is in
    below_more _ _
    (λ k h. let ne : k ≢ j = omega arith in rw get_or-set_other (c.loop-j.invariant k h))
    (get_or-set_same _ _ _ _ within ∙ c.count.ensures.value ∙ ap (λ u. count u m.LIMIT) here)
