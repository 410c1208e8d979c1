use Rattle.std.proofs.Common.{◌≡◌, slice_index_or, sym, ap, ◌∙◌, subst, arith}
use Rattle.std.proofs.lemmas.Bool.{both_ways}
use Rattle.std.proofs.lemmas.Bool.Decides.{not_from_Decides}
use Rattle.places.proofs.Families.{family_job}
use Rattle.rules.specs.Narrowing.{Scope}
use Rattle.rules.specs.Triples.{three_jobs}
use Rattle.rules.proofs.Narrowing.{trimmed_refl, trimmed_trans, trimmed_struck, swept_more, struck_job, struck_gone, struck_kept}
use Rattle.rules.proofs.sweep.sweep_job.Goals as goal

pub loop-p-init : goal.loop-p-init
loop-p-init g c =
    let has = g.L.PlaceSet.has in
    let x = c.index-lists-job.result in
    let start = c.into_iter-p-iterator.ensures.into_iter_gives in
    let from : c.into_iter-p-iterator.result.from ≡ 0 = ap (λ i. i.from) start ∙ c.places-p-items.ensures.first in
    let list : c.into_iter-p-iterator.result.list.now ≡ slice_index_or c.args.lists.now c.args.job x = ap (λ i. i.list.now) start ∙ c.places-p-items.ensures.list ∙ c.index-lists-job.is in (
      omega arith,
      trimmed_refl _,
      λ q l. absurd (omega arith),
      λ q l. family_job has c.args.lists.now c.args.job _ q x c.requires.job (c.requires.scope.below c.args.k c.requires.position) ∙ ap (λ y. has y q) (sym list),
    )

-- the place has no support
pub loop-p-preserved-then-not-supports : goal.loop-p-preserved-then-not-supports
loop-p-preserved-then-not-supports g c =
    let has = g.L.PlaceSet.has in
    let scope = subst (λ n. Scope n (three_jobs c.args.rule.now)) (sym c.loop-p.auto.lists) c.requires.scope in
    let (list, (low, held, none), next) = c.in-Some.ensures.steps in
    let (within, trimmed, done, ahead) = c.loop-p.invariant in
    let struck = struck_job has c.loop-p.lists _ _ c.in-Some.p _ c.strike.new.self c.requires.job (scope.below c.args.k c.requires.position) c.strike.ensures.after in
    let step = trimmed_struck scope c.requires.position struck (not_from_Decides _ c.supports.ensures c.if-not-supports.true) in (
      omega (arith, g.met.L.PlaceSet.within c.loop-p.p-iterator.list.now c.in-Some.p held, next),
      trimmed_trans trimmed step,
      λ q l. swept_more c.args.k c.loop-p.p-iterator.from c.in-Some.p trimmed step (λ h. absurd (both_ways _ (struck_gone struck) h)) done (λ i b h. ahead i b ∙ none i b h) q (omega (arith, next)),
      λ q l. struck_kept struck q (λ e. absurd (omega (arith, next))) ∙ ahead q (omega (arith, next)) ∙ ap (λ y. has y q) (sym list),
    )

-- the place has one
pub loop-p-preserved : goal.loop-p-preserved
loop-p-preserved g c =
    let has = g.L.PlaceSet.has in
    let (list, (low, held, none), next) = c.in-Some.ensures.steps in
    let (within, trimmed, done, ahead) = c.loop-p.invariant in (
      omega (arith, g.met.L.PlaceSet.within c.loop-p.p-iterator.list.now c.in-Some.p held, next),
      trimmed,
      λ q l. swept_more c.args.k c.loop-p.p-iterator.from c.in-Some.p trimmed (trimmed_refl _) (λ h. c.supports.ensures.0 c.if-not-supports.false) done (λ i b h. ahead i b ∙ none i b h) q (omega (arith, next)),
      λ q l. ahead q (omega (arith, next)) ∙ ap (λ y. has y q) (sym list),
    )
