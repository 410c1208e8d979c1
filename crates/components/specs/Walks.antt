-- A path-based search for the components of a full matching, in tables.
use Rattle.std.specs.Prelude.{◌≡◌, ℕ, ◌+◌, ◌-◌, ◌*◌, ◌<◌, ◌≤◌, Bool, true, ◌&&◌, List, length, ◌==◌, nat_eq, nat_lt}
use Rattle.theory.specs.Counts.{count, some, sum}
use Rattle.theory.specs.Reach.{Along}
use Rattle.theory.specs.Trail.{Trail, Loosened}
use Rattle.theory.specs.TrailTheorems.{Passed}
use Rattle.matching.specs.Tables.{at, filled}
use Rattle.matching.specs.Matched.{Matched}

-- jobs with their lists, and a matching in two tables
pub record Setting : Type 0 where
  pub jobs : ℕ
  pub width : ℕ
  pub holds : ℕ → ℕ → Bool
  pub places : List ℕ
  pub holders : List ℕ

abbrev pub setting : ℕ → ℕ → (ℕ → ℕ → Bool) → List ℕ → List ℕ → Setting
setting m w holds places holders = record { jobs = m; width = w; holds = holds; places = places; holders = holders }

-- every job has a place
pub record FullMatching (g : Setting) : Type 0 where
  pub few : g.jobs ≤ 65535
  pub narrow : g.width ≤ 2048
  pub matched : Matched g.jobs g.width g.holds g.places g.holders
  pub every : (i : ℕ) → i < g.jobs → filled g.places i ≡ true

-- the tables of a search: how far each list was followed, the position of each job on the stack, the number of its component,
-- the stack, where its segments begin, and the positions of the jobs with steps left
pub record Tables : Type 0 where
  pub cursors : List ℕ
  pub index : List ℕ
  pub labels : List ℕ
  pub nodes : List ℕ
  pub cuts : List ℕ
  pub path : List ℕ

abbrev pub tables : List ℕ → List ℕ → List ℕ → List ℕ → List ℕ → List ℕ → Tables
tables cursors index labels nodes cuts path =
    record { cursors = cursors; index = index; labels = labels; nodes = nodes; cuts = cuts; path = path }

-- how high the stacks stand, and the number of the next component
pub record Heights : Type 0 where
  pub top : ℕ
  pub cuts : ℕ
  pub depth : ℕ
  pub next : ℕ

-- each has room for m numbers
pub record Fit (m : ℕ) (t : Tables) : Type 0 where
  pub cursors : m ≤ length t.cursors
  pub index : m ≤ length t.index
  pub labels : m ≤ length t.labels
  pub nodes : m ≤ length t.nodes
  pub cuts : m ≤ length t.cuts
  pub path : m ≤ length t.path

-- job a can take the place of job b
abbrev pub edge : Setting → ℕ → ℕ → Bool
edge g a b = g.holds a (at g.places b)

-- the search has passed that place in the list of a
abbrev pub passed : Setting → List ℕ → ℕ → ℕ → Bool
passed g cursors a b = nat_lt b g.jobs && (edge g a b && nat_lt (at g.places b) (at cursors a))

-- z is one of the first n cuts
abbrev pub cut : List ℕ → ℕ → ℕ → Bool
cut cuts n z = some (λ i. nat_eq (at cuts i) z) n

-- the list of a has a place that no job has
abbrev pub Free : Setting → ℕ → Type 0
Free g a = (p : ℕ) × (p < g.width) × (g.holds a p ≡ true) × (at g.holders p ≡ 65535)

-- the mark of a job whose component is known: 1 where it reaches a free place
abbrev pub loose : List ℕ → ℕ → Bool
loose index a = at index a == 1

-- the search as the tables have it
abbrev pub TrailOf : Setting → Tables → Heights → Type 0
TrailOf g t s =
    Trail (Along g.jobs (edge g)) (Passed (passed g t.cursors)) g.jobs (filled t.index) (filled t.labels) (at t.labels) s.next
    (at t.index) (at t.nodes) s.top (cut t.cuts s.cuts) (at t.path) s.depth

-- the search has come so far
pub record Walked (g : Setting) (t : Tables) (s : Heights) : Type 0 where
  pub trail : TrailOf g t s
  pub loosened : Loosened (Along g.jobs (edge g)) (Free g) g.jobs (filled t.labels) (loose t.index)
  pub rises : (i j : ℕ) → i < j → j < s.cuts → at t.cuts i < at t.cuts j
  pub tally : s.next + s.top ≤ count (filled t.index) g.jobs
  pub few : g.jobs ≤ 65535
  pub fit : Fit g.jobs t

-- what is left to do: each place of a list that was not passed may push a job, which is popped later
abbrev pub effort : ℕ → List ℕ → ℕ → ℕ
effort m cursors depth = sum (λ a. 2 * (2049 - at cursors a)) m + depth

-- empty stacks, and the number of the next component
abbrev pub empty_at : ℕ → Heights
empty_at next = record { top = 0; cuts = 0; depth = 0; next = next }
