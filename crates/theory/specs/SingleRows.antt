-- Rows of places with no place twice.
use Rattle.std.specs.Prelude.{ℕ, ◌<◌, ◌≡◌, Bool, true}
use Rattle.theory.specs.Assignments.{Problem}

-- each place takes one job
abbrev pub single : ℕ → ℕ → (ℕ → ℕ → Bool) → Problem
single m w holds = record { jobs = m; width = w; holds = holds; cap = λ p. 1 }

-- a row for the jobs below m, each place from its job's list, and no place twice
pub record Row (m : ℕ) (holds : ℕ → ℕ → Bool) (f : ℕ → ℕ) : Type 0 where
  pub listed : (i : ℕ) → i < m → holds i (f i) ≡ true
  pub distinct : (i j : ℕ) → i < m → j < m → f i ≡ f j → i ≡ j
