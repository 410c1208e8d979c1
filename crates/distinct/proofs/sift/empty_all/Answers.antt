use Rattle.std.proofs.Common.{◌≡◌, ◌+◌, ◌<◌, false, length, get_or, set, ◌++◌, ◌∷◌, [], ◌∙◌, ap, arith, rules, subst}
use Rattle.std.proofs.lemmas.List.{length_push}
use Rattle.places.specs.Families.{family}
use Rattle.rules.specs.Jobs.{jobs_left}
use Rattle.rules.specs.Progressions.{jobs_of}
use Rattle.rules.proofs.Progressions.{job_of_turn, jobs_all}
use Rattle.distinct.specs.Scopes.{Sifted}
use Rattle.distinct.proofs.Siftings.{sifted_more, emptied}
use Rattle.distinct.proofs.Spreads.{count_is, jobs_apart}
use Rattle.distinct.proofs.sift.empty_all.Goals as goal

pub bounds-lists-job : goal.bounds-lists-job
bounds-lists-job g c =
    let d = c.args.jobs.now in
    let at = job_of_turn d _ _ c.next.new.self _ c.loop-job.yielded c.in-Some.job (ap jobs_left c.into_iter-job-iterator.ensures.into_iter_gives ∙ c.iter-job-items.ensures) c.loop-job.yielded_by c.in-Some.is c.next.ensures.steps in
    omega (arith, at.1, c.requires.scope.below (length c.loop-job.yielded) (omega (arith, at.0, count_is d (length c.args.lists.now) c.requires.scope)), c.loop-job.auto.lists)

pub offset_bounds-lists-job : goal.offset_bounds-lists-job
offset_bounds-lists-job g c =
    let d = c.args.jobs.now in
    let at = job_of_turn d _ _ c.next.new.self _ c.loop-job.yielded c.in-Some.job (ap jobs_left c.into_iter-job-iterator.ensures.into_iter_gives ∙ c.iter-job-items.ensures) c.loop-job.yielded_by c.in-Some.is c.next.ensures.steps in
    let within : c.in-Some.job < length c.loop-job.lists =
    omega (arith, at.1, c.requires.scope.below (length c.loop-job.yielded) (omega (arith, at.0, count_is d (length c.args.lists.now) c.requires.scope)), c.loop-job.auto.lists) in
    search rules

pub loop-job-preserved : goal.loop-job-preserved
loop-job-preserved g c =
    let d = c.args.jobs.now in
    let has = g.L.PlaceSet.has in
    let n = length c.args.lists.now in
    let i = length c.loop-job.yielded in
    let at = job_of_turn d _ _ c.next.new.self _ c.loop-job.yielded c.in-Some.job (ap jobs_left c.into_iter-job-iterator.ensures.into_iter_gives ∙ c.iter-job-items.ensures) c.loop-job.yielded_by c.in-Some.is c.next.ensures.steps in
    let x = get_or c.loop-job.lists c.in-Some.job c.index-lists-job.result in
    let within : c.in-Some.job < length c.loop-job.lists = omega (arith, at.1, c.requires.scope.below i (omega (arith, at.0, count_is d n c.requires.scope)), c.loop-job.auto.lists) in
    let more : i + 1 ≡ length (c.loop-job.yielded ++ c.in-Some.job ∷ []) = omega (arith, length_push c.loop-job.yielded c.in-Some.job) in
    subst (λ k. Sifted (jobs_of d) k (λ k q. false) (family has c.args.lists.now) (family has (set c.loop-job.lists c.in-Some.job c.empty.new.list))) more
    (sifted_more has (jobs_of d) i (λ k q. false) (family has c.args.lists.now) c.loop-job.lists c.in-Some.job c.empty.new.list c.index-lists-job.result
    (λ k l. jobs_apart d n c.requires.scope k i l at.0) at.1 within c.loop-job.invariant
    (λ q. emptied (has x q) (c.empty.ensures q)))

pub returns : goal.returns
returns g c =
    let d = c.args.jobs.now in
    let all = jobs_all d _ _ c.next.new.self _ c.loop-job.yielded (ap jobs_left c.into_iter-job-iterator.ensures.into_iter_gives ∙ c.iter-job-items.ensures) c.loop-job.yielded_by c.in-None.is c.next.ensures.steps in
    subst (λ k. Sifted (jobs_of d) k (λ k q. false) (family g.L.PlaceSet.has c.args.lists.now) (family g.L.PlaceSet.has c.loop-job.lists)) all c.loop-job.invariant
