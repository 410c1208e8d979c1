-- Rules by their scope and the rows that they admit: supports, and narrowing by one rule.
use Rattle.std.specs.Prelude.{◌≡◌, ℕ, ◌<◌, Bool, true, List, length, ◌≢◌, slice_index, slice_index_or}
use Rattle.places.specs.Families.{Family}

-- a scope that a lawful rule for n jobs may have: it is not empty, and its jobs differ and are below n
pub record Scope (n : ℕ) (jobs : List ℕ) : Type 0 where
  pub some : 0 < length jobs
  pub below : (k : ℕ) → k < length jobs → slice_index jobs k < n
  pub differ : (i k : ℕ) → i < length jobs → k < length jobs → slice_index jobs i ≡ slice_index jobs k → i ≡ k

-- every place of a row is held by its job
abbrev pub Drawn : List ℕ → Family → List ℕ → Type 0
Drawn scope f row = (i : ℕ) → i < length scope → f (slice_index scope i) (slice_index row i) ≡ true

-- a support of place p at position k of a scope: an admitted row with p at k, every place from its job's list
pub record Support (scope : List ℕ) (admits : List ℕ → Bool) (f : Family) (k p : ℕ) : Type 0 where
  pub row : List ℕ
  pub sized : length row ≡ length scope
  pub admitted : admits row ≡ true
  pub here : slice_index_or row k 0 ≡ p
  pub drawn : Drawn scope f row

-- the scope does not name job j
abbrev pub Misses : List ℕ → ℕ → Type 0
Misses scope j = (k : ℕ) → k < length scope → slice_index scope k ≢ j

-- what narrowing by one rule does: in the lists of the scope exactly the places with a support stay, the others keep theirs
pub record Narrowed (scope : List ℕ) (admits : List ℕ → Bool) (before after : Family) : Type 0 where
  pub keeps : (k p : ℕ) → k < length scope → Support scope admits before k p → after (slice_index scope k) p ≡ true
  pub supported : (k p : ℕ) → k < length scope → after (slice_index scope k) p ≡ true → Support scope admits before k p
  pub others : (j p : ℕ) → Misses scope j → after j p ≡ before j p
