-- What a ring over a slice of slots holds.
use Rattle.std.specs.Prelude.{ℕ, ◌<◌, ◌≤◌, List, ◌++◌, length, take, drop}
use Rattle.queue.specs.declared.ring.RingQueue.{RingQueue}

-- the slots in the order of the ring, from the head on
abbrev pub ring : {T : Type 0} → ℕ → List T → List T
ring head slots = drop head slots ++ take head slots

-- the first len of them are the entries, oldest first
abbrev pub contents : {T : Type 0} → ℕ → ℕ → List T → List T
contents head len slots = take len (ring head slots)

-- the head and the length fit a slice of so many slots
pub record Fits (head len size : ℕ) : Type 0 where
  pub head_within : head ≤ size
  pub head_below : 0 < size → head < size
  pub len_within : len ≤ size

-- what a queue holds in the slots that it is lent, oldest first
abbrev pub entries : {T : Type 0} → RingQueue → List T → List T
entries q slots = contents q.head q.len slots

-- a queue can be lent so many slots
abbrev pub Ready : RingQueue → ℕ → Type 0
Ready q size = Fits q.head q.len size

-- the entries of a queue that holds its slots, oldest first, and how many there is room for
pub record Queue (T : Type 0) : Type 0 where
  pub entries : List T
  pub capacity : ℕ

-- the queue with this head and length in these slots
abbrev pub queue : {T : Type 0} → ℕ → ℕ → List T → Queue T
queue head len slots = record { entries = contents head len slots; capacity = length slots }
