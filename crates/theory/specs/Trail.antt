-- The states of a path-based search for strongly connected components, which follows steps forward only.
use Rattle.std.specs.Prelude.{ℕ, ◌<◌, ◌≤◌, ◌≡◌, Bool, true, false, ◌⊎◌}
use Rattle.theory.specs.Reach.{Reach}

-- no segment begins after x up to y
abbrev pub Uncut : (ℕ → Bool) → ℕ → ℕ → Type 0
Uncut cut x y = (z : ℕ) → x < z → z ≤ y → cut z ≡ false

-- a stands on the stack
abbrev pub On : (ℕ → ℕ) → ℕ → ℕ → Type 0
On node top a = (x : ℕ) × (x < top) × (node x ≡ a)

-- all steps from a were followed
abbrev pub Spent : (ℕ → ℕ → Type 0) → (ℕ → ℕ → Type 0) → ℕ → Type 0
Spent R past a = (b : ℕ) → R a b → past a b

-- where the step from the number at x ended
abbrev pub Ends : (ℕ → Bool) → (ℕ → ℕ) → ℕ → (ℕ → Bool) → ℕ → ℕ → Type 0
Ends done node top cut x b = (done b ≡ true) ⊎ ((y : ℕ) × (y < top) × (node y ≡ b) × Uncut cut y x)

-- Of the numbers below m some are done, by component; the others that were seen stand on a stack. It has segments, which begin at
-- the cuts: each number on it reaches those above it and those of its segment. The path holds the positions of the numbers with
-- steps left to follow, and `past` are the steps followed.
pub record Trail (R past : ℕ → ℕ → Type 0) (m : ℕ) (seen done : ℕ → Bool) (comp : ℕ → ℕ) (next : ℕ) (pos node : ℕ → ℕ) (top : ℕ) (cut : ℕ → Bool) (path : ℕ → ℕ) (depth : ℕ) : Type 0 where
  pub on_job : (x : ℕ) → x < top → node x < m
  pub on_open : (x : ℕ) → x < top → done (node x) ≡ false
  pub on_seen : (x : ℕ) → x < top → seen (node x) ≡ true
  pub on_pos : (x : ℕ) → x < top → pos (node x) ≡ x
  pub done_seen : (a : ℕ) → a < m → done a ≡ true → seen a ≡ true
  pub seen_is : (a : ℕ) → a < m → seen a ≡ true → (done a ≡ true) ⊎ On node top a
  pub fresh : (a b : ℕ) → a < m → seen a ≡ false → past a b → ⊥
  pub up : (x y : ℕ) → x ≤ y → y < top → Reach R (node x) (node y)
  pub down : (x y : ℕ) → x ≤ y → y < top → Uncut cut x y → Reach R (node y) (node x)
  pub closed : (a b : ℕ) → a < m → b < m → done a ≡ true → R a b → (done b ≡ true) × (comp b ≤ comp a)
  pub linked : (a b : ℕ) → a < m → b < m → done a ≡ true → done b ≡ true → comp a ≡ comp b → Reach R a b
  pub numbered : (a : ℕ) → a < m → done a ≡ true → comp a < next
  pub past_on : (x b : ℕ) → x < top → b < m → past (node x) b → Ends done node top cut x b
  pub path_below : (d : ℕ) → d < depth → path d < top
  pub path_rises : (d e : ℕ) → d < e → e < depth → path d < path e
  pub cut_on : (z : ℕ) → cut z ≡ true → (d : ℕ) × (d < depth) × (path d ≡ z)
  pub rest : (x : ℕ) → x < top → Spent R past (node x) ⊎ ((d : ℕ) × (d < depth) × (path d ≡ x))
  pub first : 0 < top → cut 0 ≡ true

-- a has an exit, or leads to a number that is done and loose
abbrev pub LooseBy : (ℕ → ℕ → Type 0) → (ℕ → Type 0) → ℕ → (ℕ → Bool) → (ℕ → Bool) → ℕ → Type 0
LooseBy R exits m done loose a = exits a ⊎ ((b : ℕ) × (b < m) × R a b × (done b ≡ true) × (loose b ≡ true))

-- of the numbers that are done, exactly those that reach one with an exit are loose
pub record Loosened (R : ℕ → ℕ → Type 0) (exits : ℕ → Type 0) (m : ℕ) (done loose : ℕ → Bool) : Type 0 where
  pub frees : (a : ℕ) → a < m → done a ≡ true → loose a ≡ true → (e : ℕ) × Reach R a e × exits e
  pub exit_loose : (a : ℕ) → a < m → done a ≡ true → exits a → loose a ≡ true
  pub next_loose : (a b : ℕ) → a < m → b < m → done a ≡ true → R a b → loose b ≡ true → loose a ≡ true
