-- A search for a job that can be given a place.
use Rattle.std.specs.Prelude.{◌≡◌, ℕ, ◌+◌, ◌-◌, ◌<◌, ◌≤◌, Bool, true, false, not, ◌≢◌, List, length}
use Rattle.theory.specs.Counts.{count}
use Rattle.theory.specs.Lists.{member}
use Rattle.theory.specs.Forest.{Forest}
use Rattle.theory.specs.SingleRows.{single}
use Rattle.matching.specs.Tables.{at, filled}

-- the jobs that a search has seen, with their parents
abbrev pub Grown : ℕ → ℕ → (ℕ → ℕ → Bool) → List ℕ → List ℕ → Type 0
Grown m w holds places parents =
    (rank : ℕ → ℕ) × Forest (single m w holds) (filled places) (at places) (filled parents) (at parents) rank

-- A search from all jobs without a place has come so far: the jobs of `waiting` are still to be scanned, and of `job` the places from `from` on.
pub record Searching (m w : ℕ) (holds : ℕ → ℕ → Bool) (places holders parents waiting : List ℕ) (job from : ℕ) : Type 0 where
  pub parents_fit : m ≤ length parents
  pub grown : Grown m w holds places parents
  pub roots : (i : ℕ) → i < m → filled places i ≡ false → filled parents i ≡ true
  pub queued : (j : ℕ) → member waiting j ≡ true → (j < m) × (filled parents j ≡ true)
  pub room : length waiting ≤ count (filled parents) m
  pub scanned : (j p : ℕ) → j < m → filled parents j ≡ true → member waiting j ≡ false → holds j p ≡ true → (j ≡ job → p < from)
      → (at holders p ≢ 65535) × (filled parents (at holders p) ≡ true)

-- what is left to scan
abbrev pub left : ℕ → List ℕ → List ℕ → ℕ
left m parents waiting = length waiting + (m - count (filled parents) m)

-- the jobs below n without a place wait, and no others were seen
pub record Rooted (n : ℕ) (places parents waiting : List ℕ) : Type 0 where
  pub marks : (k : ℕ) → k < n → filled parents k ≡ not (filled places k)
  pub waits : (k : ℕ) → k < n → filled parents k ≡ true → member waiting k ≡ true
  pub only : (k : ℕ) → member waiting k ≡ true → (k < n) × (filled parents k ≡ true)
  pub room : length waiting ≤ count (filled parents) n

-- `place` is free and in the list of `job`, which was seen
pub record Found (m w : ℕ) (holds : ℕ → ℕ → Bool) (places holders parents : List ℕ) (job place : ℕ) : Type 0 where
  pub parents_fit : m ≤ length parents
  pub grown : Grown m w holds places parents
  pub is_job : job < m
  pub seen : filled parents job ≡ true
  pub below : place < w
  pub listed : holds job place ≡ true
  pub free : at holders place ≡ 65535
