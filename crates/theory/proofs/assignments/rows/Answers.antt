use Rattle.theory.proofs.SingleRows.{full_row, row_full}
use Rattle.theory.proofs.assignments.rows.Goals as goal

pub returns : goal.returns
returns c = λ m w holds b f. (full_row m w holds f, row_full m w holds f b)
