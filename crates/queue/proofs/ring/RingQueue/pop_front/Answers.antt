use Rattle.std.proofs.Common.{◌<◌, ◌-◌, ◌∷◌, length, inl, inr, arith, sym, ap, ◌∙◌}
use Rattle.queue.specs.Ring.{contents}
use Rattle.queue.proofs.Rings.{pop, After}
use Rattle.queue.proofs.ring.RingQueue.pop_front.Goals as goal
use Rattle.queue.proofs.ring.RingQueue.pop_front.Goals.{then-next-slots, else-next-slots}

pub returns-clause-oldest : goal.returns-clause-oldest
returns-clause-oldest g c =
    let q = c.args.self.now in
    let size = length c.args.slots.now in
    let low : q.head < size = c.requires.head_below (omega arith) in
    let next : After size q.head c.if-next-slots.self =
    elim c.if-next-slots.branch [ then-next-slots w ↦ inl (w.if-next-slots.true, w.self-is) | else-next-slots w ↦ inr (w.if-next-slots.false, w.self-is) ] in
    pop q.head q.len c.if-next-slots.self c.args.slots.now c.index-slots-self.result (omega arith) c.requires.len_within low next
    ∙ ap (λ x. x ∷ contents c.if-next-slots.self (q.len - 1) c.args.slots.now) (sym c.index-slots-self.is)
