-- The group of a scope: the least set of its jobs with the greatest deficiency.
use Rattle.std.specs.Prelude.{◌≡◌, ℕ, ◌≤◌, Bool, cond, List, [], ◌∷◌, length, take, drop, slice_index}
use Rattle.theory.specs.Assignments.{Problem, Group}
use Rattle.theory.specs.Lists.{member}
use Rattle.places.specs.Families.{Family}

-- the jobs of a scope with their lists, where each place takes one job
abbrev pub problem : ℕ → Family → List ℕ → Problem
problem w f scope = record { jobs = length scope; width = w; holds = λ k p. f (slice_index scope k) p; cap = λ _. 1 }

-- those of xs that pass, in order
abbrev pub picked : (ℕ → Bool) → List ℕ → List ℕ
picked test [] = []
picked test (x ∷ xs) = cond (test x) (x ∷ picked test xs) (picked test xs)

-- `jobs` is the group of the scope, in the scope's order, and d its deficiency
pub record GroupIs (w : ℕ) (f : Family) (scope jobs : List ℕ) (d : ℕ) : Type 0 where
  pub group : Group (problem w f scope) (λ k. member jobs (slice_index scope k)) d
  pub listed : jobs ≡ picked (member jobs) scope

-- the first `count` numbers of a table are the group of the scope, and the others are unchanged
pub record GroupTold (w : ℕ) (f : Family) (scope before after : List ℕ) (count d : ℕ) : Type 0 where
  pub group : GroupIs w f scope (take count after) d
  pub within : count ≤ length after
  pub rest : drop count after ≡ drop count before
