use Rattle.places.proofs.Rows.{row_one, past_row}
use Rattle.places.proofs.row.bit_of.Goals as goal

pub returns-then-place-lt64 : goal.returns-then-place-lt64
returns-then-place-lt64 c = row_one c.args.place c.if-place-lt64.true

pub returns-else-place-lt64 : goal.returns-else-place-lt64
returns-else-place-lt64 c = past_row c.args.place c.if-place-lt64.false
