use Rattle.places.proofs.Rows.{row_and}
use Rattle.places.proofs.row.common.Goals as goal

pub returns : goal.returns
returns c = row_and c.args.a c.args.b
