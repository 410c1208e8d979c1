-- The steps of a path-based search for components, over a table of tests.
use Rattle.std.specs.Prelude.{ℕ, suc, ◌<◌, ◌≤◌, ◌≡◌, Bool, true, false, ◌⊎◌}
use Rattle.theory.specs.Assignments.{put, with}
use Rattle.theory.specs.Reach.{Reach, Along}
use Rattle.theory.specs.Trail.{Trail, Spent, Ends, LooseBy, Loosened}

abbrev pub Passed : (ℕ → ℕ → Bool) → ℕ → ℕ → Type 0
Passed past a b = past a b ≡ true

-- the state of a search along a table of tests
abbrev pub State : (ℕ → ℕ → Bool) → (ℕ → ℕ → Bool) → ℕ → (ℕ → Bool) → (ℕ → Bool) → (ℕ → ℕ) → ℕ → (ℕ → ℕ) → (ℕ → ℕ) → ℕ → (ℕ → Bool) → (ℕ → ℕ) → ℕ → Type 0
State edge past m = Trail (Along m edge) (Passed past) m

-- A new number comes on the stack.
abbrev pub Pushes : Type 0
Pushes = (edge past : ℕ → ℕ → Bool) (m : ℕ) (seen done : ℕ → Bool) (comp : ℕ → ℕ) (next : ℕ) (pos node : ℕ → ℕ) (top : ℕ) (cut : ℕ → Bool) (path : ℕ → ℕ) (depth w : ℕ)
    → State edge past m seen done comp next pos node top cut path depth → w < m → seen w ≡ false → ((d : ℕ) → suc d ≡ depth → Along m edge (node (path d)) w)
    → State edge past m (with seen w) done comp next (put pos w top) (put node top w) (suc top) (with cut top) (put path depth top) (suc depth)

-- A step was followed to a number that is done, or in the segment or above it.
abbrev pub Follows : Type 0
Follows = (edge past past' : ℕ → ℕ → Bool) (m : ℕ) (seen done : ℕ → Bool) (comp : ℕ → ℕ) (next : ℕ) (pos node : ℕ → ℕ) (top : ℕ) (cut : ℕ → Bool) (path : ℕ → ℕ) (depth xa b : ℕ)
    → State edge past m seen done comp next pos node top cut path depth
    → ((x y : ℕ) → past x y ≡ true → past' x y ≡ true) → ((x y : ℕ) → past' x y ≡ true → (past x y ≡ true) ⊎ ((x ≡ node xa) × (y ≡ b)))
    → xa < top → Ends done node top cut xa b → State edge past' m seen done comp next pos node top cut path depth

-- A step to a number on the stack joins the segments above it.
abbrev pub Joins : Type 0
Joins = (edge past : ℕ → ℕ → Bool) (m : ℕ) (seen done : ℕ → Bool) (comp : ℕ → ℕ) (next : ℕ) (pos node : ℕ → ℕ) (top : ℕ) (cut cut' : ℕ → Bool) (path : ℕ → ℕ) (depth d xb : ℕ)
    → State edge past m seen done comp next pos node top cut path depth → suc d ≡ depth → xb < top → Along m edge (node (path d)) (node xb)
    → ((z : ℕ) → z ≤ xb → cut' z ≡ cut z) → ((z : ℕ) → xb < z → cut' z ≡ false) → State edge past m seen done comp next pos node top cut' path depth

-- A number without steps left leaves the path.
abbrev pub Pops : Type 0
Pops = (edge past : ℕ → ℕ → Bool) (m : ℕ) (seen done : ℕ → Bool) (comp : ℕ → ℕ) (next : ℕ) (pos node : ℕ → ℕ) (top : ℕ) (cut : ℕ → Bool) (path : ℕ → ℕ) (depth d : ℕ)
    → State edge past m seen done comp next pos node top cut path depth → suc d ≡ depth → Spent (Along m edge) (Passed past) (node (path d)) → cut (path d) ≡ false
    → State edge past m seen done comp next pos node top cut path d

-- Where it is the first of its segment, that is a component.
abbrev pub Closes : Type 0
Closes = (edge past : ℕ → ℕ → Bool) (m : ℕ) (seen done done' : ℕ → Bool) (comp comp' : ℕ → ℕ) (next : ℕ) (pos pos' node : ℕ → ℕ) (top : ℕ) (cut cut' : ℕ → Bool) (path : ℕ → ℕ) (depth d : ℕ)
    → State edge past m seen done comp next pos node top cut path depth → suc d ≡ depth → Spent (Along m edge) (Passed past) (node (path d)) → cut (path d) ≡ true
    → ((a : ℕ) → a < m → done a ≡ true → (done' a ≡ true) × (comp' a ≡ comp a))
    → ((x : ℕ) → path d ≤ x → x < top → (done' (node x) ≡ true) × (comp' (node x) ≡ next))
    → ((a : ℕ) → a < m → done' a ≡ true → (done a ≡ true) ⊎ ((x : ℕ) × (path d ≤ x) × (x < top) × (node x ≡ a)))
    → ((z : ℕ) → z < path d → cut' z ≡ cut z) → ((z : ℕ) → path d ≤ z → cut' z ≡ false)
    → ((x : ℕ) → x < path d → pos' (node x) ≡ pos (node x))
    → State edge past m seen done' comp' (suc next) pos' node (path d) cut' path d

-- At the end no step leads to a greater component, and numbers of one component reach each other.
abbrev pub Found : Type 0
Found = (edge past : ℕ → ℕ → Bool) (m : ℕ) (seen done : ℕ → Bool) (comp : ℕ → ℕ) (next : ℕ) (pos node : ℕ → ℕ) (top : ℕ) (cut : ℕ → Bool) (path : ℕ → ℕ)
    → State edge past m seen done comp next pos node top cut path 0 → ((a : ℕ) → a < m → seen a ≡ true)
    → ((a b : ℕ) → Along m edge a b → comp b ≤ comp a) × ((a b : ℕ) → a < m → b < m → comp a ≡ comp b → Reach (Along m edge) a b)

-- The component that closes is loose exactly if a number of it has an exit or leads to a loose number that was done before.
abbrev pub Loosens : Type 0
Loosens = (edge : ℕ → ℕ → Bool) (exits : ℕ → Bool) (m : ℕ) (done done' loose loose' member : ℕ → Bool) (flag : Bool)
    → Loosened (Along m edge) (λ a. exits a ≡ true) m done loose
    → ((a b : ℕ) → a < m → b < m → done a ≡ true → Along m edge a b → done b ≡ true)
    → ((a b : ℕ) → a < m → b < m → done' a ≡ true → Along m edge a b → done' b ≡ true)
    → ((a : ℕ) → a < m → done' a ≡ true → (done a ≡ true) ⊎ (member a ≡ true))
    → ((a b : ℕ) → member a ≡ true → member b ≡ true → Reach (Along m edge) a b)
    → ((a : ℕ) → a < m → done a ≡ true → loose' a ≡ loose a)
    → ((a : ℕ) → a < m → member a ≡ true → loose' a ≡ flag)
    → (flag ≡ true → (a : ℕ) × (member a ≡ true) × LooseBy (Along m edge) (λ e. exits e ≡ true) m done loose a)
    → ((a : ℕ) → a < m → member a ≡ true → LooseBy (Along m edge) (λ e. exits e ≡ true) m done loose a → flag ≡ true)
    → Loosened (Along m edge) (λ a. exits a ≡ true) m done' loose'
