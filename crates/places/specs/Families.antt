-- Families: one list of places for each job.
use Rattle.std.specs.Prelude.{◌≡◌, ℕ, zero, suc, Bool, true, false, not, ◌&&◌, ◌||◌, List, [], ◌∷◌, ◌==◌}

-- a family: whether job j holds place p
abbrev pub Family : Type 0
Family = ℕ → ℕ → Bool

-- the family that a table of lists stands for; a job past its end holds nothing
abbrev pub family : {L : Type 0} → (L → ℕ → Bool) → List L → Family
family has [] j p = false
family has (x ∷ xs) zero p = has x p
family has (x ∷ xs) (suc j) p = family has xs j p

-- every place of f is a place of g
abbrev pub Inside : Family → Family → Type 0
Inside f g = (j p : ℕ) → f j p ≡ true → g j p ≡ true

-- f with place p struck from job j
abbrev pub struck : ℕ → ℕ → Family → Family
struck j p f i q = f i q && not (i == j && q == p)

-- f with job j fixed to place p
abbrev pub fixed : ℕ → ℕ → Family → Family
fixed j p f i q = f i q && (not (i == j) || q == p)
