-- Tables of numbers in which 65535 stands for no number.
use Rattle.std.specs.Prelude.{◌≡◌, ◌≢◌, ℕ, Bool, not, List, Option, MatchOption, ◌==◌, slice_index}

-- a table as a function
abbrev pub at : List ℕ → ℕ → ℕ
at xs k = slice_index xs k

-- the table has a number at k
abbrev pub filled : List ℕ → ℕ → Bool
filled xs k = not (at xs k == 65535)

-- r is the number at k, or says that there is none
abbrev pub IsEntry : List ℕ → ℕ → Option ℕ → Type 0
IsEntry xs k r = MatchOption r (at xs k ≡ 65535) (λ n. (at xs k ≡ n) × (n ≢ 65535))
