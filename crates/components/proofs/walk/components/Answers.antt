use Rattle.std.proofs.Common.{ℕ, List, length, subst, subst₂, arith, rules}
use Rattle.theory.specs.Assignments.{Searched}
use Rattle.theory.specs.SingleRows.{single}
use Rattle.matching.specs.Tables.{at}
use Rattle.matching.proofs.Tables.{filled_with}
use Rattle.components.specs.Walks.{Setting, Walked, loose, setting, tables, empty_at}
use Rattle.components.specs.States.{over, tables_of, heights_of}
use Rattle.components.proofs.Ends.{walked_starts, searched}
use Rattle.components.proofs.States.{over_same}
use Rattle.components.proofs.Walks.{empties}
use Rattle.components.proofs.Follows.{retabled}
use Rattle.components.proofs.walk.components.Goals as goal

pub explore_all-requires-clause-state : goal.explore_all-requires-clause-state
explore_all-requires-clause-state g c =
    let j = g.J.Bipartite in
    let m = c.args.full.now in
    let o = setting (j.jobs m.jobs.now) (j.width m.jobs.now) (j.holds m.jobs.now) m.places.now m.holders.now in
    let cursors = c.fill.new.self in
    let index = c.fill-2.new.self in
    let labels = c.fill-3.new.self in
    let b = c.requires.tables in
    retabled o (search rules) (search rules)
    (walked_starts o (tables cursors index labels c.args.scratch.nodes.now c.args.scratch.cuts.now c.args.scratch.path.now) m.few
    (record {
      cursors = omega (arith, b.cursors, c.fill.ensures.len);
      index = omega (arith, b.index, c.fill-2.ensures.len);
      labels = omega (arith, b.labels, c.fill-3.ensures.len);
      nodes = b.nodes;
      cuts = b.cuts;
      path = b.path;
    })
    (λ k l. filled_with index (length c.args.index.now) (c.fill-2.ensures.after (λ y e. e)) k (omega (arith, b.index, c.fill-2.ensures.len)))
    (λ k l. filled_with labels (length c.args.labels.now) (c.fill-3.ensures.after (λ y e. e)) k (omega (arith, b.labels, c.fill-3.ensures.len)))
    (λ k l. filled_with cursors (length c.args.scratch.cursors.now) (c.fill.ensures.after (λ y e. e)) k (omega (arith, b.cursors, c.fill.ensures.len))))

pub returns : goal.returns
returns g c =
    let j = g.J.Bipartite in
    let m = c.args.full.now in
    let v = c.explore_all.new.self in
    let o = setting (j.jobs m.jobs.now) (j.width m.jobs.now) (j.holds m.jobs.now) m.places.now m.holders.now in
    let e = c.explore_all.ensures in
    let k : Walked o (tables_of v) (empty_at v.next) =
    subst (λ (x : Setting). Walked x (tables_of v) (empty_at v.next)) (over_same _ v e.state.keeps) (empties (over v) (tables_of v) (heights_of v) e.state.walked e.idle) in
    subst₂ (λ (i l : List ℕ). Searched (single (j.jobs m.jobs.now) (j.width m.jobs.now) (j.holds m.jobs.now)) (at m.places.now) (loose i) (at l)) {x = v.index.now} {u = v.labels.now} (search rules) (search rules)
    (searched o (record { few = m.few; narrow = m.narrow; matched = m.matched; every = c.requires.every }) (tables_of v) v.next k e.all)
