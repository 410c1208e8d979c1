-- The places of a scope, and what was found of a full matching of it.
use Rattle.std.specs.Prelude.{◌≡◌, ℕ, zero, suc, ◌<◌, ◌≤◌, Bool, ◌&&◌, ◌||◌, ◌≢◌, List, [], ◌∷◌, ◌++◌, length, ◌==◌, slice_index, if◌then◌else◌}
use Rattle.places.specs.Families.{Family}
use Rattle.matching.specs.Tables.{at}
use Rattle.components.specs.Walks.{loose}

-- the places of the job at position k of a scope
abbrev pub scoped : List ℕ → Family → Family
scoped scope f k p = f (slice_index scope k) p

-- the jobs at the positions below n that pass a test of positions, in order
abbrev pub chosen : List ℕ → (ℕ → Bool) → ℕ → List ℕ
chosen scope test zero = []
chosen scope test (suc n) = chosen scope test n ++ (if test n then slice_index scope n ∷ [] else [])

-- from the lists at the first n positions of a scope the places are gone that fail the test
pub record Sifted (scope : List ℕ) (n : ℕ) (ok : ℕ → ℕ → Bool) (before after : Family) : Type 0 where
  pub done : (k q : ℕ) → k < n → after (slice_index scope k) q ≡ (before (slice_index scope k) q && ok k q)
  pub others : (j q : ℕ) → ((k : ℕ) → k < n → slice_index scope k ≢ j) → after j q ≡ before j q

-- the test by which a place stays, in tables: the job's own place, a free one, or one whose holder can leave it
abbrev pub stays : List ℕ → List ℕ → List ℕ → List ℕ → ℕ → ℕ → Bool
stays places holders labels marks i p =
    (at places i == p) || (at holders p == 65535 || (loose marks (at holders p) || at labels (at holders p) == at labels i))

-- the tables have room for m jobs and w places, and the holders are jobs
pub record Divided (m w : ℕ) (places holders labels marks : List ℕ) : Type 0 where
  pub places_fit : m ≤ length places
  pub holders_fit : w ≤ length holders
  pub labels_fit : m ≤ length labels
  pub marks_fit : m ≤ length marks
  pub jobs : (p : ℕ) → p < w → at holders p ≢ 65535 → at holders p < m
