-- Admitted rows that put a job at a place.
use Rattle.std.specs.Prelude.{ℕ, ◌<◌, ◌≡◌, true, List, length, get_or}
use Rattle.theory.specs.Assignments.{Problem}
use Rattle.theory.specs.Rows.{admits}

-- an admitted row of the problem's lists with p at i
pub record RowSupport (P : Problem) (i p : ℕ) : Type 0 where
  pub row : List ℕ
  pub sized : length row ≡ P.jobs
  pub admitted : admits P.cap row ≡ true
  pub here : get_or row i 0 ≡ p
  pub drawn : (k : ℕ) → k < P.jobs → P.holds k (get_or row k 0) ≡ true
