use Rattle.std.proofs.Common.{arith}
use Rattle.places.proofs.Rows.{row_first, row_none}
use Rattle.places.proofs.row.CarrierRowPlaceSet.next_from.Goals as goal

pub returns-then-rest-eq0 : goal.returns-then-rest-eq0
returns-then-rest-eq0 c = record { first = row_none c.args.self.now.0 c.args.place c.if-rest-eq0.true }

pub returns : goal.returns
returns c = record { first = row_first c.args.self.now.0 c.args.place (omega arith) c.if-rest-eq0.false }
