use Rattle.std.proofs.Common.{◌≡◌, ◌<◌, true, length, subst, arith, rules}
use borrow.Author.Tests.{tests}
use Rattle.matching.proofs.Finds.{any_decides, serves}
use Rattle.components.specs.Steps.{outlet}
use Rattle.components.specs.States.{over}
use Rattle.components.proofs.walk.Walk.has_outlet.Goals as goal

pub any-requires-clause-callable : goal.any-requires-clause-callable
any-requires-clause-callable g c =
    serves g.J.Bipartite c.of.result (λ x q k. search (rules, tests))
    (λ x l. let low : x < (over c.args.self.now).width = subst (λ (o : g.row.J.Denot). x < g.J.Bipartite.width o) c.of.ensures.jobs l in search (rules, tests, low))

pub returns : goal.returns
returns g c =
    let w = c.args.self.now in
    any_decides g.J.Bipartite _ _ (λ p. outlet w.graph.full.now.holders.now w.index.now w.labels.now p ≡ true) w.graph.full.now.jobs.now c.args.job
    (λ x q k. search (rules, tests)) (λ x q k. search (rules, tests)) c.of.result c.any.new.self c.any.result c.any.ensures.ran
    c.of.ensures.jobs c.of.ensures.job c.of.ensures.first
