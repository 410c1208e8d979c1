use Rattle.std.proofs.Common.{◌≡◌, ℕ, ◌<◌, true, Some, None, sym, ap, ◌∙◌, subst, subst₂, arith}
use Rattle.places.specs.Sets.{First}
use Rattle.matching.specs.Tables.{at, filled}
use Rattle.matching.proofs.Searching.{holder_job, queue_room, scanned_all, scanned_more, scan_visits}
use Rattle.matching.proofs.search.Frontier.scan.Goals as goal

pub visit-requires-clause-room : goal.visit-requires-clause-room
visit-requires-clause-room g c =
    let inv = c.loop-place.invariant in
    let lp = subst (λ (o : g.row.J.Denot). c.in-Some.place < g.J.Bipartite.width o) inv.jobs_are c.in-Some.ensures.steps.3.0 in
    let (e, ne) = c.in-Some-holder_of.ensures in
    let h = holder_job _ _ _ _ _ _ _ c.args.matching.now.matched lp e ne in
    omega (arith, inv.capacity, c.requires.room, queue_room _ _ _ _ _ _ _ _ _ inv.state _ h.0 (sym c.if-not-has_seen.ensures))

pub loop-place-preserved-then-not-has_seen : goal.loop-place-preserved-then-not-has_seen
loop-place-preserved-then-not-has_seen g c =
    let inv = c.loop-place.invariant in
    let steps = c.in-Some.ensures.steps in
    let lp = subst (λ (o : g.row.J.Denot). c.in-Some.place < g.J.Bipartite.width o) inv.jobs_are steps.3.0 in
    let first = subst₂ (λ (o : g.row.J.Denot) (k : ℕ). First (g.J.Bipartite.holds o k) c.loop-place.place-iterator.from (Some c.in-Some.place)) inv.jobs_are inv.job_is steps.2 in
    let (e, ne) = c.in-Some-holder_of.ensures in
    let (state, seen, less) = scan_visits _ _ _ _ _ _ _ _ _ _ _ c.args.matching.now.matched inv.state c.requires.job c.args.matching.now.few inv.seen lp first.1 first.2 e ne (sym c.if-not-has_seen.ensures) in
    record {
      jobs_are = steps.0 ∙ inv.jobs_are;
      job_is = steps.1 ∙ inv.job_is;
      state = rw (steps.3.1, c.visit.ensures.marks, c.visit.ensures.waits) state;
      seen = rw c.visit.ensures.marks seen;
      less = rw (c.visit.ensures.marks, c.visit.ensures.waits) (omega (arith, less, inv.less));
      capacity = c.visit.ensures.capacity ∙ inv.capacity;
      same = c.visit.ensures.same ∙ inv.same;
    }

pub loop-place-preserved : goal.loop-place-preserved
loop-place-preserved g c =
    let inv = c.loop-place.invariant in
    let steps = c.in-Some.ensures.steps in
    let first = subst₂ (λ (o : g.row.J.Denot) (k : ℕ). First (g.J.Bipartite.holds o k) c.loop-place.place-iterator.from (Some c.in-Some.place)) inv.jobs_are inv.job_is steps.2 in
    let (e, ne) = c.in-Some-holder_of.ensures in
    let seen : filled c.loop-place.self.parents.now (at c.args.matching.now.holders.now c.in-Some.place) ≡ true =
    ap (filled c.loop-place.self.parents.now) e ∙ sym c.if-not-has_seen.ensures in
    record {
      jobs_are = steps.0 ∙ inv.jobs_are;
      job_is = steps.1 ∙ inv.job_is;
      state = rw steps.3.1 (scanned_more _ _ _ _ _ _ _ _ _ inv.state _ first.2 (λ z. ne (sym e ∙ z)) seen);
      seen = inv.seen;
      less = inv.less;
      capacity = inv.capacity;
      same = inv.same;
    }

pub returns-clause-state : goal.returns-clause-state
returns-clause-state g c =
    let inv = c.loop-place.invariant in
    scanned_all _ _ _ _ _ _ _ _ _ inv.state
    (subst₂ (λ (o : g.row.J.Denot) (k : ℕ). First (g.J.Bipartite.holds o k) c.loop-place.place-iterator.from None) inv.jobs_are inv.job_is c.in-None.ensures.steps.2)

-- a holder is a job
pub has_seen-requires : goal.has_seen-requires
has_seen-requires g c =
    let inv = c.loop-place.invariant in
    let lp = subst (λ (o : g.row.J.Denot). c.in-Some.place < g.J.Bipartite.width o) inv.jobs_are c.in-Some.ensures.steps.3.0 in
    let (e, ne) = c.in-Some-holder_of.ensures in
    omega (arith, (holder_job _ _ _ _ _ _ _ c.args.matching.now.matched lp e ne).0, inv.state.parents_fit)

pub returns-in_default-clause-state : goal.returns-in_default-clause-state
returns-in_default-clause-state g c =
    let inv = c.loop-place.invariant in
    let steps = c.in-Some.ensures.steps in
    let first = subst₂ (λ (o : g.row.J.Denot) (k : ℕ). First (g.J.Bipartite.holds o k) c.loop-place.place-iterator.from (Some c.in-Some.place)) inv.jobs_are inv.job_is steps.2 in
    record {
      parents_fit = inv.state.parents_fit;
      grown = inv.state.grown;
      is_job = c.requires.job;
      seen = inv.seen;
      below = subst (λ (o : g.row.J.Denot). c.in-Some.place < g.J.Bipartite.width o) inv.jobs_are steps.3.0;
      listed = first.1;
      free = c.in_default.ensures;
    }
