use Rattle.std.proofs.Common.{arith}
use Rattle.components.proofs.Labels.{labelled_tail}
use Rattle.components.proofs.walk.label.Goals as goal

pub returns : goal.returns
returns c =
    let t = c.tail-job-items in
    let k = c.loop-job.invariant in
    labelled_tail c.args.nodes.now.slots.now t.result.now c.args.from c.args.nodes.now.len c.args.number c.args.table.now c.loop-job.table t.ensures.len t.ensures.numbers
    (λ x l. k.new x (omega arith)) (omega arith) (λ a h. k.kept a (λ x l. h x (omega arith)))
