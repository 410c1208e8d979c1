-- Which narrowings are refused.
use Rattle.std.specs.Prelude.{ℕ, ◌+◌, ◌*◌, Bool, not, ◌||◌, Option, ◌==◌, nat_lt}
use Rattle.refusals.specs.Codes.{Code, then_check, fails_if}

-- n is no number of jobs
abbrev pub no_board : ℕ → Bool
no_board n = n == 0 || nat_lt 256 n

-- a rule of which `lawful` tells is not lawful for n jobs
abbrev pub unlawful : {R : Type 0} → (R → ℕ → Bool) → ℕ → R → Bool
unlawful lawful n r = not (lawful r n)

-- working memory is too short for n lists of a kind with this limit
abbrev pub short_memory : ℕ → ℕ → ℕ → ℕ → Bool
short_memory n limit lists numbers = nat_lt lists n || nat_lt numbers (8 * (n + limit))

-- narrowing n lists by one rule
abbrev pub narrow_refusal : ℕ → ℕ → ℕ → ℕ → Bool → Option Code
narrow_refusal n limit lists numbers lawful =
    then_check (fails_if (no_board n) 8) (then_check (fails_if (short_memory n limit lists numbers) 10) (fails_if (not lawful) 12))
