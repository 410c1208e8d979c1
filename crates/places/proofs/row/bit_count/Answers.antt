use Rattle.std.proofs.Common.{arith}
use Rattle.places.proofs.Rows.{row_count}
use Rattle.places.proofs.row.bit_count.Goals as goal

pub returns : goal.returns
returns c = row_count c.args.row (omega arith)
