-- Consistent families, the greatest one inside given lists, and what it leaves to each job.
-- A rule r has the jobs `scope r` and admits the rows of places that `admits r` passes.
use Rattle.std.specs.Prelude.{◌≡◌, ℕ, ◌<◌, Bool, true, List, map, length, Option, MatchOption, slice_index}
use Rattle.std.specs.List.{AllByRecursion}
use Rattle.places.specs.Families.{Family, Inside}
use Rattle.rules.specs.Narrowing.{Support}

-- consistent for one rule: every place in every list of the scope has a support inside the family
abbrev pub Consistent : List ℕ → (List ℕ → Bool) → Family → Type 0
Consistent scope admits f = (k p : ℕ) → k < length scope → f (slice_index scope k) p ≡ true → Support scope admits f k p

-- consistent for every rule of a list
abbrev pub AllConsistent : {R : Type 0} → (R → List ℕ) → (R → List ℕ → Bool) → List R → Family → Type 0
AllConsistent scope admits rules f = AllByRecursion (λ r. Consistent (scope r) (admits r) f) rules

-- the greatest consistent family inside f holds place p for job j: some consistent family inside f does
pub record InGreatest {R : Type 0} (scope : R → List ℕ) (admits : R → List ℕ → Bool) (rules : List R) (f : Family) (j p : ℕ) : Type 0 where
  pub family : Family
  pub inside : Inside family f
  pub consistent : AllConsistent scope admits rules family
  pub holds : family j p ≡ true

-- `after` is the greatest consistent family inside `before`
pub record Settled {R : Type 0} (scope : R → List ℕ) (admits : R → List ℕ → Bool) (rules : List R) (before after : Family) : Type 0 where
  pub only : (j p : ℕ) → after j p ≡ true → InGreatest scope admits rules before j p
  pub every : (j p : ℕ) → InGreatest scope admits rules before j p → after j p ≡ true

-- the greatest consistent family inside f leaves job j a place
abbrev pub Placed : {R : Type 0} → (R → List ℕ) → (R → List ℕ → Bool) → List R → Family → ℕ → Type 0
Placed scope admits rules f j = (p : ℕ) × InGreatest scope admits rules f j p

-- it leaves each of the first n jobs a place
abbrev pub Complete : {R : Type 0} → (R → List ℕ) → (R → List ℕ → Bool) → List R → ℕ → Family → Type 0
Complete scope admits rules n f = (j : ℕ) → j < n → Placed scope admits rules f j

-- j is the lowest of the first n jobs that it leaves no place
pub record ShortAt {R : Type 0} (scope : R → List ℕ) (admits : R → List ℕ → Bool) (rules : List R) (n : ℕ) (f : Family) (j : ℕ) : Type 0 where
  pub below : j < n
  pub emptied : Placed scope admits rules f j → ⊥
  pub lowest : (i : ℕ) → i < j → Placed scope admits rules f i

-- what a settling answers: nothing where every job is left a place, and else the lowest job that is left none
abbrev pub Lowest : {R : Type 0} → (R → List ℕ) → (R → List ℕ → Bool) → List R → ℕ → Family → Option ℕ → Type 0
Lowest scope admits rules n f answer = MatchOption answer (Complete scope admits rules n f) (ShortAt scope admits rules n f)

-- a whole placing: each of the first n jobs has one place, from its list, and every rule admits the row of its jobs' places
pub record WholePlacing {R : Type 0} (scope : R → List ℕ) (admits : R → List ℕ → Bool) (rules : List R) (n : ℕ) (f : Family) (at : ℕ → ℕ) : Type 0 where
  pub drawn : (j : ℕ) → j < n → f j (at j) ≡ true
  pub admitted : AllByRecursion (λ r. admits r (map at (scope r)) ≡ true) rules

-- every whole placing from `before` takes its places from `after` too
abbrev pub KeepsPlacings : {R : Type 0} → (R → List ℕ) → (R → List ℕ → Bool) → List R → ℕ → Family → Family → Type 0
KeepsPlacings scope admits rules n before after =
    (at : ℕ → ℕ) → WholePlacing scope admits rules n before at → (j : ℕ) → j < n → after j (at j) ≡ true
