use Rattle.queue.proofs.line.WaitingLine.new.Goals as goal

pub invariant_of-result : goal.invariant_of-result
invariant_of-result g c = c.new.ensures.ready _
