use Rattle.std.proofs.Common.{length, inl, inr}
use Rattle.queue.proofs.Rings.{push, Behind}
use Rattle.queue.proofs.ring.RingQueue.push_back.Goals as goal
use Rattle.queue.proofs.ring.RingQueue.push_back.Goals.{then-self-room, else-self-room}

pub returns-clause-pushed : goal.returns-clause-pushed
returns-clause-pushed g c =
    let q = c.args.self.now in
    let place : Behind (length c.args.slots.now) q.head q.len c.if-self-room.at =
    elim c.if-self-room.branch [ then-self-room w ↦ inl (w.if-self-room.true, w.at-is) | else-self-room w ↦ inr (w.if-self-room.false, w.at-is) ] in
    push q.head q.len c.if-self-room.at c.args.slots.now c.args.value c.requires.head_within c.if-self-slots.false place
