-- What a search tells of a matching that carries its jobs.
use Rattle.std.specs.Prelude.{ℕ, List}
use Rattle.matching.specs.declared.bipartite.Bipartite as lists
use Rattle.matching.specs.declared.matching.Matching.{Matching}
use Rattle.matching.specs.Matched.{Stalled}
use Rattle.matching.specs.Searching.{Found, Searching}

module _ {J : Type 0} {B : lists.Ghosts J} (m : Matching J B) where
  -- a search has come so far
  abbrev pub IsSearched : List ℕ → List ℕ → ℕ → ℕ → Type 0
  IsSearched parents waiting job from = Searching (B.jobs m.jobs.now) (B.width m.jobs.now) (B.holds m.jobs.now) m.places.now m.holders.now parents waiting job from

  -- a job that was seen can take a free place
  abbrev pub HasOpening : List ℕ → ℕ → ℕ → Type 0
  HasOpening parents job place = Found (B.jobs m.jobs.now) (B.width m.jobs.now) (B.holds m.jobs.now) m.places.now m.holders.now parents job place

  -- no more job can get a place
  abbrev pub IsStalled : List ℕ → Type 0
  IsStalled parents = Stalled (B.jobs m.jobs.now) (B.width m.jobs.now) (B.holds m.jobs.now) m.places.now m.holders.now parents
