use Rattle.std.proofs.Common.{length}
use Rattle.rules.proofs.Progressions.{lawful_scope}
use Rattle.distinct.proofs.rule.DistinctRule.narrow.Goals as goal

pub narrow_jobs-requires-clause-scope : goal.narrow_jobs-requires-clause-scope
narrow_jobs-requires-clause-scope g c = lawful_scope c.args.self.now.jobs (length c.args.lists.now) c.requires.lawful
