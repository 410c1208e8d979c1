-- Sets of places, as tests on numbers.
use Rattle.std.specs.Prelude.{◌≡◌, ℕ, ◌/◌, ◌%◌, ◌^◌, ◌<◌, ◌≤◌, Bool, true, false, not, ◌&&◌, Option, MatchOption, ◌==◌, nat_lt}

-- the set without p
abbrev pub without : (ℕ → Bool) → ℕ → ℕ → Bool
without s p q = s q && not (q == p)

-- p alone if it is in the set, and nothing otherwise
abbrev pub only : (ℕ → Bool) → ℕ → ℕ → Bool
only s p q = s q && q == p

-- r is the smallest number of the set at or above p, or says that there is none
abbrev pub First : (ℕ → Bool) → ℕ → Option ℕ → Type 0
First s p r =
    MatchOption r
    ((q : ℕ) → p ≤ q → s q ≡ false)
    (λ v. (p ≤ v) × (s v ≡ true) × ((q : ℕ) → p ≤ q → q < v → s q ≡ false))

-- binary digit p of n is 1
abbrev pub digit : ℕ → ℕ → Bool
digit n p = n / 2 ^ p % 2 == 1

-- the set of a carrier row: place p is held exactly if binary digit p of its number is 1, and no place of 64 or more is
abbrev pub row_has : ℕ → ℕ → Bool
row_has n p = nat_lt p 64 && digit n p
