-- The set that the numbers stored in a needle list stand for: their longest front part that a making would pass.
use Rattle.std.specs.Prelude.{ℕ, ◌+◌, Bool, true, cond, ◌&&◌, List, [], ◌∷◌, length, nat_le, nat_lt, ◌++◌, ◌-◌, replicate}
use Rattle.theory.specs.Lists.{member}

-- x may follow numbers below low
abbrev pub passes : ℕ → ℕ → Bool
passes low x = nat_le low x && nat_lt x 2048

-- xs rises strictly from low on and stays below 2,048
abbrev pub rises : ℕ → List ℕ → Bool
rises low [] = true
rises low (x ∷ xs) = passes low x && rises (x + 1) xs

-- the numbers that a needle list can be made from
abbrev pub makes_list : List ℕ → Bool
makes_list xs = nat_le (length xs) 8 && rises 0 xs

-- the longest front part of xs that rises strictly from low on and stays below 2,048
abbrev pub front_part : ℕ → List ℕ → List ℕ
front_part low [] = []
front_part low (x ∷ xs) = cond (passes low x) (x ∷ front_part (x + 1) xs) []

-- the set of a needle list, by its stored numbers
abbrev pub needles_have : List ℕ → ℕ → Bool
needles_have xs = member (front_part 0 xs)

-- ys as the eight numbers of a needle list store it
abbrev pub padded : List ℕ → List ℕ
padded ys = ys ++ replicate (8 - length ys) 65535
