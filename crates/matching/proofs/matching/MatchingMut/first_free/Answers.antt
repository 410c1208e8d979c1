use Rattle.std.proofs.Common.{◌≡◌, ◌<◌, ◌≢◌, length, subst, arith, rules}
use borrow.Author.Tests.{tests}
use Rattle.matching.specs.Tables.{at}
use Rattle.matching.proofs.Finds.{found, first_free, serves}
use Rattle.matching.proofs.matching.MatchingMut.first_free.Goals as goal

pub find-requires-clause-callable : goal.find-requires-clause-callable
find-requires-clause-callable g c =
    serves g.J.Bipartite c.of.result (λ x q k. search (rules, tests))
    (λ x l. let low : x < length c.args.self.now.holders.now = omega (arith, subst (λ (o : g.row.J.Denot). x < g.J.Bipartite.width o) c.of.ensures.jobs l, c.requires.holders) in search (rules, tests, low))

pub returns : goal.returns
returns g c =
    let holders = c.args.self.now.holders.now in
    let it = c.of.result in
    first_free g.J.Bipartite holders it c.args.self.now.jobs.now c.args.job c.find.result c.of.ensures.jobs c.of.ensures.job c.of.ensures.first
    (found g.J.Bipartite _ _ (λ p. at holders p ≡ 65535) (λ p. at holders p ≢ 65535) (λ x q k. search (rules, tests)) (λ x q k. search (rules, tests)) it c.find.new.self c.find.result c.find.ensures.ran)
