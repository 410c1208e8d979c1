use Rattle.std.proofs.Common.{◌<◌, length, ◌∙◌, add-one, arith, length-set}
use Rattle.matching.proofs.Searching.{rooted_waits, rooted_passes, seen_few}
use Rattle.matching.proofs.Shifts.{bare_next}
use Rattle.matching.proofs.search.Frontier.start.Goals as goal
use Rattle.matching.proofs.search.Frontier.start.Goals.{then-place, else-place}

pub visit-requires-clause-room : goal.visit-requires-clause-room
visit-requires-clause-room g c =
    let inv = c.loop-job.invariant in
    omega (arith, inv.rooted.room, seen_few c.loop-job.self.parents.now c.loop-job.job, inv.capacity, c.requires.room, c.args.matching.now.sized)

pub loop-job-preserved : goal.loop-job-preserved
loop-job-preserved g c =
    let inv = c.loop-job.invariant in
    let job = c.loop-job.job in
    let fits : job < length c.loop-job.self.parents.now = omega (arith, inv.size, c.fill.ensures.len, c.requires.parents, c.args.matching.now.sized) in
    elim c.if-place.branch [
      | then-place w ↦
          let e = w.visit.ensures in
          rw w.self-is (record {
            rooted = rw (add-one, e.marks, e.waits) (rooted_waits job job _ _ _ inv.rooted fits (λ z. omega (arith, z, c.args.matching.now.sized, c.args.matching.now.few)) w.if-place.true);
            bare = rw e.marks (bare_next job job _ inv.bare);
            size = rw (e.marks, length-set) inv.size;
            capacity = e.capacity ∙ inv.capacity;
            same = e.same ∙ inv.same;
          })
      | else-place w ↦ rw w.self-is (record {
        rooted = rw add-one (rooted_passes job _ _ _ inv.rooted (inv.bare job (omega arith) fits) w.if-place.false);
        bare = λ k l b. inv.bare k (omega arith) b;
        size = inv.size;
        capacity = inv.capacity;
        same = inv.same;
      })
    ]
