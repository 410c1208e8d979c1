-- The tables of a matching that is being made.
use Rattle.std.specs.Prelude.{◌≡◌, ℕ, ◌≤◌, List, length}
use Rattle.matching.specs.declared.bipartite.Bipartite as lists
use Rattle.matching.specs.declared.matching.MatchingMut.{MatchingMut}
use Rattle.matching.specs.Matched.{Matched}
use Rattle.matching.specs.Searching.{Found}

-- the same two tables, for the same jobs
pub record SameTables {J : Type 0} (old new : MatchingMut J) : Type 0 where
  pub jobs : new.jobs.now ≡ old.jobs.now
  pub places : new.places.ghost_name ≡ old.places.ghost_name
  pub holders : new.holders.ghost_name ≡ old.holders.ghost_name
  pub size : length new.places.now ≡ length old.places.now

module _ {J : Type 0} (B : lists.Ghosts J) (t : MatchingMut J) where
  -- the tables hold a matching of the jobs
  pub record IsMatching : Type 0 where
    pub few : B.jobs t.jobs.now ≤ 65535
    pub narrow : B.width t.jobs.now ≤ 2048
    pub sized : length t.places.now ≡ B.jobs t.jobs.now
    pub matched : Matched (B.jobs t.jobs.now) (B.width t.jobs.now) (B.holds t.jobs.now) t.places.now t.holders.now

  -- a search from the jobs without a place has found a job that can take a free place
  abbrev pub HasOpening : List ℕ → ℕ → ℕ → Type 0
  HasOpening parents job place = Found (B.jobs t.jobs.now) (B.width t.jobs.now) (B.holds t.jobs.now) t.places.now t.holders.now parents job place
