use Rattle.std.proofs.Common.{◌≡◌, ◌<◌, length, slice_index, ◌∙◌, sym, ap, arith, rules, subst}
use Rattle.std.proofs.lemmas.List.{length_push}
use Rattle.places.specs.Families.{family}
use Rattle.rules.specs.Progressions.{jobs_of}
use Rattle.rules.proofs.Progressions.{job_of_turn, jobs_all}
use Rattle.distinct.specs.Scopes.{Sifted}
use Rattle.distinct.specs.Divisions.{stays_in}
use Rattle.distinct.proofs.Siftings.{sifted_more}
use Rattle.distinct.proofs.Spreads.{count_few, count_is, jobs_apart}
use Rattle.distinct.proofs.sift.sift_all.Goals as goal

pub bounds-lists-job : goal.bounds-lists-job
bounds-lists-job g c =
    let d = c.args.jobs.now in
    let at = job_of_turn d _ _ c.next.new.self _ c.loop-i.yielded c.in-Some.job c.iter-job-items.ensures c.loop-i.yielded_by c.in-Some.is c.next.ensures.steps in
    omega (arith, at.1, c.requires.scope.below (length c.loop-i.yielded) (omega (arith, at.0, count_is d (length c.args.lists.now) c.requires.scope)), c.loop-i.auto.lists)

pub offset_bounds-lists-job : goal.offset_bounds-lists-job
offset_bounds-lists-job g c =
    let d = c.args.jobs.now in
    let at = job_of_turn d _ _ c.next.new.self _ c.loop-i.yielded c.in-Some.job c.iter-job-items.ensures c.loop-i.yielded_by c.in-Some.is c.next.ensures.steps in
    let within : c.in-Some.job < length c.loop-i.lists =
    omega (arith, at.1, c.requires.scope.below (length c.loop-i.yielded) (omega (arith, at.0, count_is d (length c.args.lists.now) c.requires.scope)), c.loop-i.auto.lists) in
    search rules

pub sift-requires : goal.sift-requires
sift-requires g c =
    let d = c.args.jobs.now in
    let at = job_of_turn d _ _ c.next.new.self _ c.loop-i.yielded c.in-Some.job c.iter-job-items.ensures c.loop-i.yielded_by c.in-Some.is c.next.ensures.steps in
    (d.count, omega (arith, at.0, c.loop-i.invariant.0), c.requires.tables)

pub overflow_step-i : goal.overflow_step-i
overflow_step-i g c =
    let d = c.args.jobs.now in
    let at = job_of_turn d _ _ c.next.new.self _ c.loop-i.yielded c.in-Some.job c.iter-job-items.ensures c.loop-i.yielded_by c.in-Some.is c.next.ensures.steps in
    omega (arith, at.0, c.loop-i.invariant.0, count_few d (length c.args.lists.now) c.requires.scope)

pub loop-i-preserved : goal.loop-i-preserved
loop-i-preserved g c =
    let d = c.args.jobs.now in
    let has = g.L.PlaceSet.has in
    let n = length c.args.lists.now in
    let i = c.loop-i.i in
    let at = job_of_turn d _ _ c.next.new.self _ c.loop-i.yielded c.in-Some.job c.iter-job-items.ensures c.loop-i.yielded_by c.in-Some.is c.next.ensures.steps in
    let few : i < d.count = omega (arith, at.0, c.loop-i.invariant.0) in
    let job : c.in-Some.job ≡ slice_index (jobs_of d) i = at.1 ∙ ap (slice_index (jobs_of d)) (sym c.loop-i.invariant.0) in
    let within : c.in-Some.job < length c.loop-i.lists = omega (arith, job, c.requires.scope.below i (omega (arith, few, count_is d n c.requires.scope)), c.loop-i.auto.lists) in (
      omega (arith, c.loop-i.invariant.0, length_push c.loop-i.yielded c.in-Some.job),
      sifted_more has (jobs_of d) i (stays_in c.args.division.now) (family has c.args.lists.now) c.loop-i.lists c.in-Some.job c.sift.new.list c.index-lists-job.result
          (λ k l. jobs_apart d n c.requires.scope k i l few) job within c.loop-i.invariant.1 c.sift.ensures,
    )

pub returns : goal.returns
returns g c =
    let d = c.args.jobs.now in
    let all = jobs_all d _ _ c.next.new.self _ c.loop-i.yielded c.iter-job-items.ensures c.loop-i.yielded_by c.in-None.is c.next.ensures.steps in
    subst (λ k. Sifted (jobs_of d) k (stays_in c.args.division.now) (family g.L.PlaceSet.has c.args.lists.now) (family g.L.PlaceSet.has c.loop-i.lists)) (c.loop-i.invariant.0 ∙ all) c.loop-i.invariant.1
