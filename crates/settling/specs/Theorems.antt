-- What holds of the greatest consistent family, whatever the rules and lists.
use Rattle.std.specs.Prelude.{◌≡◌, ℕ, ◌<◌, Bool, true, false, List, [], ◌∷◌, ◌≢◌}
use Rattle.std.specs.List.{ContainsAt as Has, AllByRecursion}
use Rattle.theory.specs.Lists.{member}
use Rattle.places.specs.Families.{Family, Inside, family}
use Rattle.rules.specs.Narrowing.{Scope}
use Rattle.rules.specs.Progressions.{no_place_twice}
use Rattle.rules.specs.Triples.{triple, is_sum}
use Rattle.settling.specs.Consistency.{Settled, WholePlacing}

-- any rule, by its scope and the rows of places that it admits
pub record Constraint : Type 0 where
  pub scope : List ℕ
  pub rows : List ℕ → Bool

abbrev pub constraint : List ℕ → (List ℕ → Bool) → Constraint
constraint scope rows = record { scope = scope; rows = rows }

-- g is the greatest consistent family inside f
abbrev pub Greatest : List Constraint → Family → Family → Type 0
Greatest rules f g = Settled (λ (c : Constraint). c.scope) (λ (c : Constraint). c.rows) rules f g

-- `at` is a whole placing of n jobs from f
abbrev pub Placing : List Constraint → ℕ → Family → (ℕ → ℕ) → Type 0
Placing rules n f at = WholePlacing (λ (c : Constraint). c.scope) (λ (c : Constraint). c.rows) rules n f at

-- two lists have the same members, in whatever order and however often
abbrev pub SameMembers : List Constraint → List Constraint → Type 0
SameMembers xs ys = (c : Constraint) → (Has xs c → Has ys c) × (Has ys c → Has xs c)

-- the result does not depend on the order of the rules
abbrev pub OrderFree : Type 0
OrderFree = (rules others : List Constraint) → SameMembers rules others → (f g h : Family) → Greatest rules f g → Greatest others f h → (j p : ℕ) → g j p ≡ h j p

-- settling what is settled changes nothing
abbrev pub SettledStays : Type 0
SettledStays = (rules : List Constraint) (f g h : Family) → Greatest rules f g → Greatest rules g h → (j p : ℕ) → h j p ≡ g j p

-- cutting more never brings a place back
abbrev pub CutsRestoreNothing : Type 0
CutsRestoreNothing = (rules : List Constraint) (before cut left left_cut : Family) → Inside cut before → Greatest rules before left → Greatest rules cut left_cut → Inside left_cut left

-- every whole placing lies inside the result
abbrev pub PlacingsStay : Type 0
PlacingsStay = (rules : List Constraint) (n : ℕ) (f g : Family) → AllByRecursion (λ c. Scope n c.scope) rules → Greatest rules f g → (at : ℕ → ℕ) → Placing rules n f at → (j : ℕ) → j < n → g j (at j) ≡ true

-- so a place that is missing from the result is used by no whole placing
abbrev pub MissingUnused : Type 0
MissingUnused = (rules : List Constraint) (n : ℕ) (f g : Family) → AllByRecursion (λ c. Scope n c.scope) rules → Greatest rules f g → (j p : ℕ) → j < n → g j p ≡ false → (at : ℕ → ℕ) → Placing rules n f at → at j ≢ p

-- three jobs: 0 and 1 have different places, and these add up to that of 2
abbrev pub three_lists : Family
three_lists = family member ((0 ∷ 1 ∷ []) ∷ (0 ∷ 1 ∷ []) ∷ (0 ∷ 1 ∷ 2 ∷ []) ∷ [])

abbrev pub three_rules : List Constraint
three_rules = constraint (0 ∷ 1 ∷ []) no_place_twice ∷ constraint (0 ∷ 1 ∷ 2 ∷ []) (triple is_sum) ∷ []

-- the converse fails: these lists are their own greatest consistent family, with places 0, 1 and 2 for job 2;
-- there is a whole placing, and every one has 1 at job 2
pub record ConverseFails : Type 0 where
  pub greatest : Greatest three_rules three_lists three_lists
  pub held : AllByRecursion (λ p. three_lists 2 p ≡ true) (0 ∷ 1 ∷ 2 ∷ [])
  pub some : (at : ℕ → ℕ) × Placing three_rules 3 three_lists at
  pub only : (at : ℕ → ℕ) → Placing three_rules 3 three_lists at → at 2 ≡ 1
