-- A matching in two tables.
use Rattle.std.specs.Prelude.{◌≡◌, ℕ, ◌<◌, ◌≤◌, Bool, true, ◌≢◌, List, length, Option, MatchOption}
use Rattle.theory.specs.Assignments.{Valid, Stuck, Reached}
use Rattle.theory.specs.SingleRows.{single}
use Rattle.matching.specs.Tables.{at, filled}

-- some jobs have places, none twice, and each place knows its holder
pub record Matched (m w : ℕ) (holds : ℕ → ℕ → Bool) (places holders : List ℕ) : Type 0 where
  pub places_fit : m ≤ length places
  pub holders_fit : w ≤ length holders
  pub valid : Valid (single m w holds) (filled places) (at places)
  pub taken : (i : ℕ) → i < m → filled places i ≡ true → at holders (at places i) ≡ i
  pub back : (p : ℕ) → p < w → at holders p ≢ 65535 → (at holders p < m) × (filled places (at holders p) ≡ true) × (at places (at holders p) ≡ p)

-- no more job can get a place: the jobs of `parents` are those that the jobs without a place reach
pub record Stalled (m w : ℕ) (holds : ℕ → ℕ → Bool) (places holders parents : List ℕ) : Type 0 where
  pub matched : Matched m w holds places holders
  pub stuck : Stuck (single m w holds) (filled places) (at places) (filled parents)
  pub reached : Reached (single m w holds) (filled places) (at places) (filled parents)

-- r is the smallest place of a list that no job has, or says that there is none
abbrev pub FirstFree : ℕ → (ℕ → Bool) → List ℕ → Option ℕ → Type 0
FirstFree w list holders r =
    MatchOption r
    ((p : ℕ) → list p ≡ true → at holders p ≢ 65535)
    (λ v. (v < w) × (list v ≡ true) × (at holders v ≡ 65535) × ((p : ℕ) → p < v → list p ≡ true → at holders p ≢ 65535))
