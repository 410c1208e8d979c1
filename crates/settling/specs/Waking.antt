-- Which rules wait after lists have changed, and what is noted of the lists.
use Rattle.std.specs.Prelude.{◌≡◌, ℕ, ◌+◌, ◌<◌, true, false, ◌||◌, ◌⊎◌, List, [], ◌∷◌, ◌++◌, length, Option, MatchOption, slice_index}
use Rattle.std.specs.List.{AllByRecursion}
use Rattle.theory.specs.Counts.{count}
use Rattle.theory.specs.Lists.{member}
use Rattle.places.specs.Families.{Family}
use Rattle.settling.specs.declared.agenda.WakeUp.{WakeUp}
use Rattle.settling.specs.Agenda.{IsRule, Rightful, waits}

-- rightful wake-ups joined the line at the back, of each of which P holds
pub record Called {R : Type 0} (scope : R → List ℕ) (rules : List R) (P : WakeUp → Type 0) (old new : List WakeUp) : Type 0 where
  pub added : List WakeUp
  pub split : new ≡ old ++ added
  pub each : AllByRecursion (λ w. P w × Rightful scope rules w) added

-- a wake-up of a rule that did not wait, by job j
abbrev pub ByJob : List WakeUp → ℕ → WakeUp → Type 0
ByJob a j w = (w.job ≡ j) × (waits a w.rule ≡ false)

-- after one job's list has changed, a rule waits exactly if it did before or its scope has the job
abbrev pub Woken : {R : Type 0} → (R → List ℕ) → List R → ℕ → List WakeUp → List WakeUp → Type 0
Woken {R} scope rules j a b = (i : ℕ) (r : R) → IsRule rules i r → waits b i ≡ (waits a i || member (scope r) j)

-- each rule waits by the first job of its scope, in the order of the rules from number i on
abbrev pub first_wake_ups : {R : Type 0} → (R → List ℕ) → ℕ → List R → List WakeUp
first_wake_ups scope i [] = []
first_wake_ups scope i (r ∷ rules) = record { rule = i; job = slice_index (scope r) 0 } ∷ first_wake_ups scope (i + 1) rules

-- the numbers noted are the lists' counts
abbrev pub Noted : ℕ → ℕ → Family → List ℕ → Type 0
Noted n limit f noted = (j : ℕ) → j < n → slice_index noted j ≡ count (f j) limit

-- the number of places of job j is another than was noted
abbrev pub Changed : ℕ → Family → List ℕ → ℕ → Type 0
Changed limit f noted j = count (f j) limit ≡ slice_index noted j → ⊥

-- job j is one of the first n and has changed
abbrev pub ChangedBelow : ℕ → (ℕ → Type 0) → ℕ → Type 0
ChangedBelow n changed j = (j < n) × changed j

-- a wake-up of a rule that did not wait, by the lowest of the first n jobs in its scope that have changed
pub record ByChange {R : Type 0} (scope : R → List ℕ) (rules : List R) (changed : ℕ → Type 0) (n : ℕ) (a : List WakeUp) (w : WakeUp) : Type 0 where
  pub changed_job : ChangedBelow n changed w.job
  pub fresh : waits a w.rule ≡ false
  pub lowest : (j : ℕ) → j < w.job → changed j → (r : R) → IsRule rules w.rule r → member (scope r) j ≡ false

-- a rule waits after a change exactly if it did before or its scope has one of the first n jobs that have changed;
-- where none has, all is as it was
pub record Roused {R : Type 0} (scope : R → List ℕ) (rules : List R) (changed : ℕ → Type 0) (n : ℕ) (a b : List WakeUp) : Type 0 where
  pub kept : (i : ℕ) (r : R) → IsRule rules i r → waits a i ≡ true → waits b i ≡ true
  pub woken : (i : ℕ) (r : R) (j : ℕ) → IsRule rules i r → j < n → changed j → member (scope r) j ≡ true → waits b i ≡ true
  pub only : (i : ℕ) (r : R) → IsRule rules i r → waits b i ≡ true → (waits a i ≡ true) ⊎ ((j : ℕ) × (ChangedBelow n changed j × (member (scope r) j ≡ true)))
  pub quiet : ((j : ℕ) → j < n → changed j → ⊥) → b ≡ a

-- the first number that is 0, if there is one
abbrev pub FirstZero : List ℕ → Option ℕ → Type 0
FirstZero xs r =
    MatchOption r
    ((j : ℕ) → j < length xs → 0 < slice_index xs j)
    (λ v. (v < length xs) × (slice_index xs v ≡ 0) × ((j : ℕ) → j < v → 0 < slice_index xs j))
