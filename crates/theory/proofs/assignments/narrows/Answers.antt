use Rattle.theory.proofs.Narrowing.{kept_supports, supports_kept}
use Rattle.theory.proofs.assignments.narrows.Goals as goal

pub returns : goal.returns
returns c = λ P f loose comp v s i p l b h. (kept_supports P f loose comp v s i p l b h, supports_kept P f loose comp v s i p l b h)
