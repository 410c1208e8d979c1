-- Rows of places in which a place may occur as often as its capacity says.
use Rattle.std.specs.Prelude.{ℕ, ◌+◌, Bool, true, ◌&&◌, List, [], ◌∷◌, eqb, leb}
use Rattle.theory.specs.Counts.{bit}

-- how often p occurs in a row
abbrev pub occurs : ℕ → List ℕ → ℕ
occurs p [] = 0
occurs p (x ∷ xs) = bit (eqb x p) + occurs p xs

-- every place of `some` occurs in the row at most as often as its capacity says
abbrev pub fit : (ℕ → ℕ) → List ℕ → List ℕ → Bool
fit cap row [] = true
fit cap row (x ∷ some) = leb (occurs x row) (cap x) && fit cap row some

-- no place of the row occurs more often than its capacity says
abbrev pub admits : (ℕ → ℕ) → List ℕ → Bool
admits cap row = fit cap row row
