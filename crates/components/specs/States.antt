-- A search in its struct.
use Rattle.std.specs.Prelude.{◌≡◌, ℕ, ◌-◌, ◌<◌, ◌≤◌, true, length}
use Rattle.theory.specs.Reach.{Along}
use Rattle.theory.specs.Trail.{Spent}
use Rattle.theory.specs.TrailTheorems.{Passed}
use Rattle.matching.specs.declared.bipartite.Bipartite as lists
use Rattle.matching.specs.Tables.{at, filled}
use Rattle.components.specs.Walks.{Setting, Heights, Tables, setting, tables, edge, passed, Walked}
use Rattle.components.specs.declared.graph.Graph.{Graph}
use Rattle.components.specs.declared.walk.Walk.{Walk}

module _ {J : Type 0} {B : lists.Ghosts J} where
  -- the jobs with their lists, and the matching
  abbrev pub setting_of : Graph J B → Setting
  setting_of g = let m = g.full.now in setting (B.jobs m.jobs.now) (B.width m.jobs.now) (B.holds m.jobs.now) m.places.now m.holders.now

  abbrev pub over : Walk J B → Setting
  over w = setting_of w.graph

  abbrev pub tables_of : Walk J B → Tables
  tables_of w = tables w.cursors.now w.index.now w.labels.now w.nodes.slots.now w.cuts.slots.now w.path.slots.now

  abbrev pub heights_of : Walk J B → Heights
  heights_of w = record { top = w.nodes.len; cuts = w.cuts.len; depth = w.path.len; next = w.next }

  -- the search has come so far
  abbrev pub IsWalked : Walk J B → Type 0
  IsWalked w = Walked (over w) (tables_of w) (heights_of w)

  -- the path ends at that position
  abbrev pub IsLast : Walk J B → ℕ → Type 0
  IsLast w last = (0 < w.path.len) × (at w.path.slots.now (w.path.len - 1) ≡ last)

  -- each step from the job at that position was followed
  abbrev pub IsSpent : Walk J B → ℕ → Type 0
  IsSpent w x = Spent (Along (over w).jobs (edge (over w))) (Passed (passed (over w) w.cursors.now)) (at w.nodes.slots.now x)

  -- there is a mark and a number for each job
  abbrev pub HasMarks : Walk J B → Type 0
  HasMarks w = ((over w).jobs ≤ length w.index.now) × ((over w).jobs ≤ length w.labels.now)

  -- jobs stand on the stack
  abbrev pub HasJobs : Walk J B → Type 0
  HasJobs w = (x : ℕ) → x < w.nodes.len → at w.nodes.slots.now x < (over w).jobs

  -- a search of the same graph, whose results stand in the same tables
  pub record Keeps (old new : Walk J B) : Type 0 where
    pub graph : new.graph ≡ old.graph
    pub index : new.index.ghost_name ≡ old.index.ghost_name
    pub labels : new.labels.ghost_name ≡ old.labels.ghost_name

  -- the search goes on: what was seen stays so
  pub record GoesOn (old new : Walk J B) : Type 0 where
    pub keeps : Keeps old new
    pub walked : IsWalked new
    pub seen : (a : ℕ) → filled old.index.now a ≡ true → filled new.index.now a ≡ true
