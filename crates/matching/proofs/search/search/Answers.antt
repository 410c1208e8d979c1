use Rattle.std.proofs.Common.{refl, arith, rules}
use Rattle.matching.specs.Matching.{IsStalled}
use Rattle.matching.proofs.Searching.{rooted_searching, searching_pops, popped_job, searching_ends}
use Rattle.matching.proofs.search.search.Goals as goal

pub loop-job-init : goal.loop-job-init
loop-job-init g c = record {
  state = rooted_searching _ _ _ _ _ _ _ (omega (arith, c.start.ensures.size, c.requires.parents)) c.start.ensures.rooted;
  capacity = refl;
  same = refl;
}

pub scan-requires-clause-job : goal.scan-requires-clause-job
scan-requires-clause-job g c = (popped_job _ _ _ _ _ _ _ _ (rw c.in-Some.ensures.oldest at c.loop-job.invariant.state)).0

pub scan-requires-clause-seen : goal.scan-requires-clause-seen
scan-requires-clause-seen g c = (popped_job _ _ _ _ _ _ _ _ (rw c.in-Some.ensures.oldest at c.loop-job.invariant.state)).1

pub scan-requires-clause-state : goal.scan-requires-clause-state
scan-requires-clause-state g c = searching_pops _ _ _ _ _ _ _ _ (rw (← c.in-Some.ensures.oldest) c.loop-job.invariant.state)

pub returns : goal.returns
returns g c =
    let stalled : IsStalled c.args.matching.now c.loop-job.frontier.parents.now =
    searching_ends _ _ _ _ _ _ c.args.matching.now.matched (rw c.in_default.ensures.empty.0 at c.loop-job.invariant.state) in
    search rules
