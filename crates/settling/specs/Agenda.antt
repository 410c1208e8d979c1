-- Which rules wait, and in which order.
use Rattle.std.specs.Prelude.{◌≡◌, ℕ, ◌+◌, ◌<◌, ◌≤◌, Bool, true, false, if◌then◌else◌, List, [], ◌∷◌, ◌++◌, length, Some, None, Option, ◌==◌, slice_index_or}
use Rattle.std.specs.List.{AllByRecursion, list_any}
use Rattle.theory.specs.Counts.{bit}
use Rattle.theory.specs.Lists.{member}
use Rattle.settling.specs.declared.agenda.WakeUp.{WakeUp}

-- what an agenda shows: its rules, and the wake-ups that wait, oldest first
pub record Lined (R : Type 0) : Type 0 where
  pub rules : List R
  pub line : List WakeUp

-- r is rule i
abbrev pub IsRule : {R : Type 0} → List R → ℕ → R → Type 0
IsRule rules i r = (i < length rules) × (r ≡ slice_index_or rules i r)

-- a wake-up that may wait: its rule is one of the rules, and its job is in that rule's scope
pub record Rightful {R : Type 0} (scope : R → List ℕ) (rules : List R) (w : WakeUp) : Type 0 where
  pub named : R
  pub is : IsRule rules w.rule named
  pub names : member (scope named) w.job ≡ true

-- how often a rule stands in a list of wake-ups
abbrev pub times : ℕ → List WakeUp → ℕ
times i [] = 0
times i (w ∷ ws) = bit (w.rule == i) + times i ws

-- whether rule i waits
abbrev pub waits : List WakeUp → ℕ → Bool
waits line i = list_any (λ w. w.rule == i) line

-- the line holds each rule that is marked once, by a job of its scope, and no other, and there is room for every rule
pub record Agreed {R : Type 0} (scope : R → List ℕ) (rules : List R) (capacity : ℕ) (line : List WakeUp) (marks : List Bool) : Type 0 where
  pub room : length rules ≤ capacity
  pub few : length rules ≤ 64
  pub flags : length marks ≡ 64
  pub rightful : AllByRecursion (Rightful scope rules) line
  pub once : (i : ℕ) → i < length rules → times i line ≡ bit (slice_index_or marks i false)

-- the line with one wake-up more at the back, unless its rule waits already
abbrev pub joined : List WakeUp → WakeUp → List WakeUp
joined line w = if waits line w.rule then line else line ++ w ∷ []

-- the answer of taking the next wake-up from line a: none waits, or the oldest waits no more
pub record TakenOne (a b : List WakeUp) (w : WakeUp) : Type 0 where
  pub rest : a ≡ w ∷ b
  pub cleared : (i : ℕ) → waits b i ≡ (if i == w.rule then false else waits a i)

abbrev pub Taken : List WakeUp → List WakeUp → Option WakeUp → Type 0
Taken a b None = (a ≡ []) × (b ≡ [])
Taken a b (Some w) = TakenOne a b w
