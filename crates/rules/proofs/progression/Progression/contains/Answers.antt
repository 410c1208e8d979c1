use Rattle.std.proofs.Common.{arith, rules}
use Rattle.rules.proofs.Progressions.{member_still, member_step}
use Rattle.rules.proofs.progression.Progression.contains.Goals as goal

pub returns-else-distance-self-eq0 : goal.returns-else-distance-self-eq0
returns-else-distance-self-eq0 c = let e = member_step c.args.self.now c.args.job c.if-job-self.false (omega arith) in search rules

pub returns-else-distance-eq0 : goal.returns-else-distance-eq0
returns-else-distance-eq0 c = let e = member_still c.args.self.now c.args.job c.if-job-self.false c.if-self-eq0.true in search rules
