use Rattle.std.proofs.Common.{length, ap, arith}
use Rattle.places.proofs.Fronts.{front_shorter}
use Rattle.places.proofs.needles.NeedleList.front.Goals as goal

pub returns-clause-few : goal.returns-clause-few
returns-clause-few c = omega (arith, ap length c.of.ensures, front_shorter 0 c.args.self.now.places)
