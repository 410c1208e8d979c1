use Rattle.places.proofs.Rows.{row_without}
use Rattle.places.proofs.row.remaining.Goals as goal

pub returns : goal.returns
returns c = row_without c.args.a c.args.b
