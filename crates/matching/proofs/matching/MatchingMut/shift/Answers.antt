use Rattle.std.proofs.Common.{◌≡◌, ◌≤◌, ℕ, Bool, true, length, sym, ap, ◌∙◌, arith}
use Rattle.theory.specs.SingleRows.{single}
use Rattle.theory.proofs.Forests.{climb_falls}
use Rattle.matching.specs.Tables.{at, filled}
use Rattle.matching.proofs.Tables.{some_filled, after, matching_stays, unchanged}
use Rattle.matching.proofs.Shifts.{shifting_starts, shifting_more, shifting_ends}
use Rattle.matching.proofs.matching.MatchingMut.shift.Goals as goal

pub loop-left-init : goal.loop-left-init
loop-left-init g c =
    let r = c.requires in
    record {
      rank = r.found.grown.0;
      forest = r.found.grown.1;
      moves = shifting_starts _ _ _ _ _ _ _ _ r.matching.few r.matching.matched r.found;
      same = unchanged;
    }

pub loop-left-smaller : goal.loop-left-smaller
loop-left-smaller g c =
    let j = g.J.Bipartite in
    let jobs = c.args.self.now.jobs.now in
    let inv = c.loop-left.invariant in
    let moving = inv.moves.moving in
    let (e, ne) = c.in-Some.ensures in
    let placed : filled c.args.self.now.places.now c.loop-left.job ≡ true =
    sym (ap (λ (A : ℕ → Bool). A c.loop-left.job) inv.moves.same) ∙ some_filled c.loop-left.self.places.now c.loop-left.job (λ z. ne (sym e ∙ z)) in
    climb_falls (single (j.jobs jobs) (j.width jobs) (j.holds jobs)) (filled c.args.self.now.places.now) (at c.args.self.now.places.now) (filled c.args.parents.now) (at c.args.parents.now)
    inv.rank inv.forest (length c.args.parents.now) c.loop-left.job c.requires.found.parents_fit moving.job moving.found placed

pub loop-left-preserved : goal.loop-left-preserved
loop-left-preserved g c =
    let inv = c.loop-left.invariant in
    let f = c.assign.ensures in
    let (e, ne) = c.in-Some.ensures in
    let narrow : g.J.Bipartite.width c.args.self.now.jobs.now ≤ 65535 = omega (arith, c.requires.matching.narrow) in
    record {
      rank = inv.rank;
      forest = inv.forest;
      moves = rw (f.places, f.holders, ← e) (shifting_more _ _ _ _ _ _ _ _ _ _ narrow inv.moves inv.forest (λ z. ne (sym e ∙ z)));
      same = after inv.same f.same;
    }

pub returns-clause-matching : goal.returns-clause-matching
returns-clause-matching g c =
    let inv = c.loop-left.invariant in
    let f = c.assign-2.ensures in
    let narrow : g.J.Bipartite.width c.args.self.now.jobs.now ≤ 65535 = omega (arith, c.requires.matching.narrow) in
    matching_stays c.requires.matching (after inv.same f.same) (rw (f.places, f.holders) (shifting_ends _ _ _ _ _ _ _ _ _ _ narrow inv.moves c.in_default.ensures).0)

pub returns-clause-more : goal.returns-clause-more
returns-clause-more g c =
    let inv = c.loop-left.invariant in
    let narrow : g.J.Bipartite.width c.args.self.now.jobs.now ≤ 65535 = omega (arith, c.requires.matching.narrow) in
    rw c.assign-2.ensures.places (shifting_ends _ _ _ _ _ _ _ _ _ _ narrow inv.moves c.in_default.ensures).1
