use Rattle.std.proofs.Common.{◌∙◌, arith}
use Rattle.matching.proofs.Searching.{matched_none, seen_few}
use Rattle.matching.proofs.Tables.{filled_with}
use Rattle.matching.proofs.jobs.match_jobs.Goals as goal

pub take_free-requires-clause-matching : goal.take_free-requires-clause-matching
take_free-requires-clause-matching g c =
    let size = c.fill.ensures.len ∙ c.requires.places in
    record {
      few = c.requires.few.0;
      narrow = c.requires.few.1;
      sized = size;
      matched = matched_none _ _ _ _ _ (omega (arith, size)) (omega (arith, c.fill-2.ensures.len, c.requires.holders))
          (filled_with _ _ (c.fill.ensures.after (λ y e. e))) (filled_with _ _ (c.fill-2.ensures.after (λ y e. e)));
    }

pub loop-opening-smaller : goal.loop-opening-smaller
loop-opening-smaller g c =
    let inv = c.loop-opening.invariant in
    let more = c.shift.ensures.more in
    omega (arith, rw inv.jobs at more, seen_few c.shift.new.self.places.now (g.J.Bipartite.jobs c.args.jobs.now))
