use Rattle.std.proofs.Common.{◌≡◌, ◌-◌, ◌<◌, ◌≢◌, sym, ◌∙◌, refl, arith, rules}
use Rattle.matching.specs.Tables.{at}
use Rattle.components.specs.States.{over, tables_of, heights_of}
use Rattle.components.proofs.Stacks.{top_is, top_not}
use Rattle.components.proofs.States.{goes}
use Rattle.components.proofs.Walks.{cuts_some, last_on, tops, pops_at}
use Rattle.components.proofs.Follows.{retabled}
use Rattle.components.proofs.Closes.{closes_at}
use Rattle.components.proofs.walk.Walk.leave.Goals as goal

pub close-requires-clause-heights : goal.close-requires-clause-heights
close-requires-clause-heights g c =
    let w = c.args.self.now in
    let k = c.requires.state in
    let on : c.args.last < w.nodes.len = omega (arith, last_on (over w) (tables_of w) (heights_of w) k c.requires.last.0, c.requires.last.1) in
    (cuts_some (over w) (tables_of w) (heights_of w) k (omega arith), c.requires.last.0, omega (arith, tops (over w) (tables_of w) (heights_of w) k, k.few))

pub returns-then-eq-clause-state : goal.returns-then-eq-clause-state
returns-then-eq-clause-state g c =
    let w = c.args.self.now in
    let k = c.requires.state in
    let (d, e) = c.requires.last in
    let on = last_on (over w) (tables_of w) (heights_of w) k d in
    let some : 0 < w.cuts.len = cuts_some (over w) (tables_of w) (heights_of w) k (omega (arith, on)) in
    let cut : at w.cuts.slots.now (w.cuts.len - 1) ≡ c.args.last = top_is c.last.result w.cuts.len _ c.args.last c.last.ensures some (sym c.eq.ensures ∙ c.if-eq.true) in
    let (walked, seen) =
    closes_at (over w) w.graph.every (tables_of w) (heights_of w) k d c.args.last e (tables_of c.close.new.self) (heights_of c.close.new.self) c.requires.spent cut c.close.ensures.closed in
    goes w c.close.new.self c.close.ensures.keeps walked seen

pub returns-else-eq-clause-state : goal.returns-else-eq-clause-state
returns-else-eq-clause-state g c =
    let w = c.args.self.now in
    let k = c.requires.state in
    let (d, e) = c.requires.last in
    let on = last_on (over w) (tables_of w) (heights_of w) k d in
    let some : 0 < w.cuts.len = cuts_some (over w) (tables_of w) (heights_of w) k (omega (arith, on)) in
    let other : at w.cuts.slots.now (w.cuts.len - 1) ≢ c.args.last = top_not c.last.result w.cuts.len _ c.args.last c.last.ensures some (sym c.eq.ensures ∙ c.if-eq.false) in
    record {
      keeps = record { graph = refl; index = refl; labels = refl };
      walked = retabled (over w) (search rules) (search rules) (pops_at (over w) (tables_of w) (heights_of w) k c.args.last e d c.requires.spent other);
      seen = λ a h. h;
    }
