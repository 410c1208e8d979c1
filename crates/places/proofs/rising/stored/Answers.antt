use Rattle.std.proofs.Common.{ℕ, map, ap, sym, ◌∙◌, arith, of_calls, slice_set, ◌∷◌, []}
use Rattle.std.proofs.lemmas.List.{length-map, length_push, map-append}
use Rattle.std.proofs.lemmas.Iterator.Consumers.{YieldsList-at, YieldsList-from_enumerate, YieldsList-end}
use Rattle.places.specs.Needles.{padded}
use Rattle.places.proofs.Fronts.{padded_push, items_of}
use Rattle.places.proofs.rising.stored.Goals as goal

pub loop-i-preserved : goal.loop-i-preserved
loop-i-preserved g c =
    let steps = c.in-Some.ensures.steps in
    let goes = c.in-Some.ensures.goes in
    let left = c.loop-i.invariant in
    let ys = map (λ (p : ℕ × ℕ). p.1) c.loop-i.yielded in (
      search of_calls,
      search of_calls,
      ap (λ zs. slice_set zs c.in-Some.i c.in-Some.place) left.2
          ∙ padded_push ys c.in-Some.i c.in-Some.place (omega (arith, length-map c.loop-i.yielded (λ (p : ℕ × ℕ). p.1), left.3, steps.1)) (search of_calls)
          ∙ ap padded (sym (map-append _ c.loop-i.yielded ((c.in-Some.i, c.in-Some.place) ∷ []))),
      omega (arith, left.3, steps.2, length_push c.loop-i.yielded (c.in-Some.i, c.in-Some.place)),
      search of_calls,
    )

pub returns : goal.returns
returns g c xs come =
    let road = YieldsList-at c.into_iter-i-iterator.ensures.into_iter_gives (YieldsList-from_enumerate {steps = g.I.Iterator.next_gives} (YieldsList-at c.enumerate-i-items.ensures.source (record { runs = come })) c.enumerate-i-items.ensures.count) in
    let end = YieldsList-end road c.loop-i.yielded c.loop-i.i-iterator c.loop-i.yielded_by c.next.result c.next.new.self c.in-None.is c.next.ensures.steps in
    c.loop-i.invariant.2 ∙ ap padded (items_of c.loop-i.yielded xs end.0)
