use Rattle.theory.proofs.RowSupports.{row_supports, supports_row}
use Rattle.theory.proofs.assignments.row_supports.Goals as goal

pub returns : goal.returns
returns c = λ P b i p l. (row_supports P b i p, supports_row P i p l)
