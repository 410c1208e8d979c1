use Rattle.std.proofs.Common.{◌≤◌, arith}
use Rattle.matching.proofs.Tables.{after, matching_stays}
use Rattle.matching.proofs.Shifts.{bare_next, matched_gives}
use Rattle.matching.proofs.matching.MatchingMut.take_free.Goals as goal
use Rattle.matching.proofs.matching.MatchingMut.take_free.Goals.{in-Some, in_default}

pub loop-job-preserved : goal.loop-job-preserved
loop-job-preserved g c =
    let inv = c.loop-job.invariant in
    let m = inv.matching in
    let job = c.loop-job.job in
    elim c.match-first_free.branch [
      | in-Some w ↦
          let e = w.assign.ensures in
          let (below, listed, free, first) = w.in-Some.ensures in
          let narrow : g.J.Bipartite.width c.loop-job.self.jobs.now ≤ 65535 = omega (arith, m.narrow) in
          rw w.self-is (record {
            matching = matching_stays m e.same (rw (e.places, e.holders) (matched_gives _ _ _ _ _ job w.in-Some.place m.few narrow m.matched
                (omega (arith, m.sized, inv.same.size)) (inv.bare job (omega arith) (omega (arith, inv.same.size))) below listed free));
            bare = rw e.places (bare_next job w.in-Some.place _ inv.bare);
            same = after inv.same e.same;
          })
      | in_default w ↦ rw w.self-is (record { matching = m; bare = λ k l b. inv.bare k (omega arith) b; same = inv.same })
    ]
