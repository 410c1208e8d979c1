-- Which refusal a settling gives: that of the first check that fails.
use Rattle.std.specs.Prelude.{◌≡◌, ℕ, ◌+◌, ◌*◌, ◌≤◌, Bool, true, ◌||◌, List, length, Option, nat_lt}
use Rattle.std.specs.List.{AllByRecursion}
use Rattle.refusals.specs.Codes.{Code, then_check, fails_if, first_fault}
use Rattle.rules.specs.Refusals.{no_board, unlawful}

-- working memory is too short for n lists of a kind with this limit and so many rules
abbrev pub short_tables : ℕ → ℕ → ℕ → ℕ → ℕ → Bool
short_tables n limit numbers wake_ups rules = nat_lt numbers (8 * (n + limit)) || nat_lt wake_ups rules

-- settling n lists by the rules
abbrev pub settle_refusal : {R : Type 0} → ℕ → ℕ → ℕ → ℕ → (R → ℕ → Bool) → List R → Option Code
settle_refusal n limit numbers wake_ups lawful rules =
    then_check (fails_if (no_board n) 8)
    (then_check (fails_if (short_tables n limit numbers wake_ups (length rules)) 10) (then_check (fails_if (nat_lt 64 (length rules)) 16) (first_fault (unlawful lawful n) 12 0 rules)))

-- what a settling asks of its tables, which the checks make sure of
pub record Admissible {R : Type 0} (n limit numbers wake_ups : ℕ) (lawful : R → ℕ → Bool) (rules : List R) : Type 0 where
  pub rules_few : length rules ≤ 64
  pub slots : length rules ≤ wake_ups
  pub few : n ≤ 256
  pub all_lawful : AllByRecursion (λ r. lawful r n ≡ true) rules
  pub memory : 8 * (n + limit) ≤ numbers
