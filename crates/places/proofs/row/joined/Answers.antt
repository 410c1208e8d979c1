use Rattle.places.proofs.Rows.{row_or}
use Rattle.places.proofs.row.joined.Goals as goal

pub returns : goal.returns
returns c = row_or c.args.a c.args.b
