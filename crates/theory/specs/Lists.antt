-- Lists of numbers as sets.
use Rattle.std.specs.Prelude.{Bool, List, ℕ, ◌==◌, nat_lt}
use Rattle.std.specs.List.{list_all, list_any}

-- q is one of xs
abbrev pub member : List ℕ → ℕ → Bool
member xs q = list_any (λ x. q == x) xs

-- every number of xs is below n
abbrev pub all_below : ℕ → List ℕ → Bool
all_below n xs = list_all (λ x. nat_lt x n) xs
