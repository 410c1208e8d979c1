-- When a list or a cut is at fault.
use Rattle.std.specs.Prelude.{ℕ, Bool, ◌&&◌, ◌||◌, nat_le}
use Rattle.theory.specs.Counts.{some}
use Rattle.cuts.specs.declared.cut.Cut.{Cut}

-- a set of places below the limit has one that is not below w
abbrev pub past_width : ℕ → ℕ → (ℕ → Bool) → Bool
past_width limit w s = some (λ p. nat_le w p && s p) limit

-- a cut names a job not below n or a place not below w
abbrev pub outside : ℕ → ℕ → Cut → Bool
outside n w c = nat_le n c.job || nat_le w c.place
