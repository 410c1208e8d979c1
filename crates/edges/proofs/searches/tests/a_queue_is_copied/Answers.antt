use Rattle.edges.proofs.searches.tests.a_queue_is_copied.Goals as goal

pub push_back-requires : goal.push_back-requires
push_back-requires g c = c.new-queue.ensures.ready 2
