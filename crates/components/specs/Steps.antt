-- What the steps of the search do to its tables.
use Rattle.std.specs.Prelude.{◌≡◌, ℕ, ◌+◌, ◌-◌, ◌<◌, ◌≤◌, Bool, true, false, length, ◌&&◌, ◌||◌, ◌≢◌, List, IsTrue, ◌↔◌, ◌==◌, slice_set}
use Rattle.theory.specs.Counts.{bit}
use Rattle.matching.specs.Tables.{at, filled}
use Rattle.components.specs.Walks.{Setting, Tables, Heights, loose}

-- the stacks have room for one more job, whose position is a number
abbrev pub HasRoom : Tables → Heights → Type 0
HasRoom t s = (s.top < length t.nodes) × (s.top < 65535) × (s.cuts < length t.cuts) × (s.depth < length t.path)

-- the heights after a push
abbrev pub pushed : Heights → Heights
pushed s = record { top = s.top + 1; cuts = s.cuts + 1; depth = s.depth + 1; next = s.next }

-- the tables after job k came on the stack, in a segment of its own
abbrev pub on_top : Tables → Heights → ℕ → Tables
on_top t s k = record t { index = slice_set t.index k s.top; nodes = slice_set t.nodes s.top k; cuts = slice_set t.cuts s.cuts s.top; path = slice_set t.path s.depth s.top }

-- job k comes on the stack, in a segment of its own
pub record Pushed (t : Tables) (s : Heights) (k : ℕ) (t' : Tables) (s' : Heights) : Type 0 where
  pub tables : t' ≡ on_top t s k
  pub heights : s' ≡ pushed s

-- r of the first n cuts, which rise, are at most low
pub record Collapsed (cuts : List ℕ) (n low r : ℕ) : Type 0 where
  pub few : r ≤ n
  pub below : (i : ℕ) → i < r → at cuts i ≤ low
  pub above : (i : ℕ) → r ≤ i → i < n → low < at cuts i

-- a step to job k was followed: a new job comes on the stack, one on the stack joins the segments above it, one that is done changes nothing
pub record Followed (t : Tables) (s : Heights) (k : ℕ) (t' : Tables) (s' : Heights) : Type 0 where
  pub fresh : filled t.index k ≡ false → Pushed t s k t' s'
  pub same : filled t.index k ≡ true → t' ≡ t
  pub joins : filled t.index k ≡ true → filled t.labels k ≡ false → (n : ℕ) × Collapsed t.cuts s.cuts (at t.index k) n × (s' ≡ record s { cuts = n })
  pub done : filled t.index k ≡ true → filled t.labels k ≡ true → s' ≡ s

-- the jobs at the positions from `from` up to `top` have the number v, and the others what they had
pub record Labelled (nodes : List ℕ) (from top v : ℕ) (before after : List ℕ) : Type 0 where
  pub new : (x : ℕ) → from ≤ x → x < top → at after (at nodes x) ≡ v
  pub len : length after ≡ length before
  pub kept : (a : ℕ) → ((x : ℕ) → from ≤ x → x < top → at nodes x ≢ a) → at after a ≡ at before a

-- a place is free, or its holder is done and loose
abbrev pub outlet : List ℕ → List ℕ → List ℕ → ℕ → Bool
outlet holders index labels p = at holders p == 65535 || (filled labels (at holders p) && loose index (at holders p))

-- the list of a has such a place
abbrev pub HasOutlet : Setting → List ℕ → List ℕ → ℕ → Type 0
HasOutlet g index labels a = (p : ℕ) × (p < g.width) × (g.holds a p ≡ true) × (outlet g.holders index labels p ≡ true)

-- that of a job at a position from `from` up to `top` has one
abbrev pub SomeOutlet : Setting → List ℕ → List ℕ → List ℕ → ℕ → ℕ → Type 0
SomeOutlet g index labels nodes from top = (x : ℕ) × (from ≤ x) × (x < top) × HasOutlet g index labels (at nodes x)

-- the segment from `from` on becomes a component, which is loose exactly if it has an outlet
pub record Closed (g : Setting) (t : Tables) (s : Heights) (from : ℕ) (t' : Tables) (s' : Heights) : Type 0 where
  pub numbered : Labelled t.nodes from s.top s.next t.labels t'.labels
  pub marked : (flag : Bool) × (IsTrue flag ↔ SomeOutlet g t.index t.labels t.nodes from s.top) × Labelled t.nodes from s.top (bit flag) t.index t'.index
  pub tables : t' ≡ record t { index = t'.index; labels = t'.labels }
  pub heights : s' ≡ record { top = from; cuts = s.cuts - 1; depth = s.depth - 1; next = s.next + 1 }
