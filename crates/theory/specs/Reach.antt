-- What a relation reaches in any number of steps.
use Rattle.std.specs.Prelude.{ℕ, ◌<◌, ◌≡◌, Bool, true}

pub data Reach (R : ℕ → ℕ → Type 0) : ℕ → ℕ → Type 0 where
  here : {i : ℕ} → Reach R i i
  step : {i j k : ℕ} → R i j → Reach R j k → Reach R i k

-- the steps that a table of tests allows, among the numbers below m
abbrev pub Along : ℕ → (ℕ → ℕ → Bool) → ℕ → ℕ → Type 0
Along m edge i k = (i < m) × (k < m) × (edge i k ≡ true)
