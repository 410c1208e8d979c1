-- The distinct rule that a rule names, and its group.
use Rattle.std.proofs.Common.{◌≡◌, ℕ, zero, suc, Bool, true, List, [], ◌∷◌, Some, Option, subst}
use Rattle.std.specs.List.{AllByRecursion}
use Rattle.rules.specs.Narrowing.{Scope}
use Rattle.rules.specs.Progressions.{Names, jobs_of}
use Rattle.rules.specs.declared.progression.Progression.{Progression}
use Rattle.board.specs.Book.{named_at}

module _ {R : Type 0} (names : R → Option Progression) where
  -- the jobs that a lawful rule names are a scope
  pub named_scope : (scope : R → List ℕ) (admits : R → List ℕ → Bool) (lawful : R → ℕ → Bool) (n : ℕ)
      → ((r : R) (m : ℕ) → lawful r m ≡ true → Scope m (scope r))
      → ((r : R) (d : Progression) → names r ≡ Some d → Names (scope r) (admits r) d)
      → (rules : List R) (i : ℕ) (d : Progression) → AllByRecursion (λ r. lawful r n ≡ true) rules → named_at names rules i ≡ Some d → Scope n (jobs_of d)
  named_scope scope admits lawful n scoped named [] i d a e = absurd cc
  named_scope scope admits lawful n scoped named (r ∷ rules) zero d a e = subst (λ js. Scope n js) (named r d e).jobs (scoped r n a.0)
  named_scope scope admits lawful n scoped named (r ∷ rules) (suc i) d a e = named_scope scope admits lawful n scoped named rules i d a.1 e
