-- The steps of a narrowing that goes from place to place.
use Rattle.std.specs.Prelude.{◌≡◌, ℕ, Bool, true, List, length, slice_index}
use Rattle.places.specs.Families.{Family, Inside}
use Rattle.rules.specs.Narrowing.{Drawn, Misses, Support}

-- a step on the way to a narrowed family: some places may be gone, and no admitted row that was drawn from it
pub record Trimmed (scope : List ℕ) (admits : List ℕ → Bool) (before after : Family) : Type 0 where
  pub inside : Inside after before
  pub rows : (row : List ℕ) → length row ≡ length scope → admits row ≡ true → Drawn scope before row → Drawn scope after row
  pub others : (j p : ℕ) → Misses scope j → after j p ≡ before j p

-- place p is done at position k: it is gone, or had a support before
abbrev pub SweptAt : List ℕ → (List ℕ → Bool) → ℕ → ℕ → Family → Family → Type 0
SweptAt scope admits k p before after = after (slice_index scope k) p ≡ true → Support scope admits before k p

-- position k is done: what it still holds had a support before
abbrev pub Swept : List ℕ → (List ℕ → Bool) → ℕ → Family → Family → Type 0
Swept scope admits k before after = (p : ℕ) → SweptAt scope admits k p before after
