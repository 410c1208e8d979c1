-- The jobs of a scope that pass a test of positions.
use Rattle.std.proofs.Common.{◌≡◌, ℕ, zero, suc, ◌+◌, ◌<◌, ◌≤◌, Bool, true, false, cond, List, [], ◌∷◌, ◌++◌, length, get_or, take, drop, set, sym, refl, ap, ◌∙◌, subst, subst₂, inl, inr, add-one, arith, take-suc}
use native.Mathlib.Decide.{ℕ_discrete}
use Rattle.theory.specs.Lists.{member}
use Rattle.theory.proofs.Sums.{cases, clash}
use Rattle.matching.proofs.Searching.{pushed_here, pushed_has, pushed_is}
use Rattle.rules.specs.Narrowing.{Scope}
use Rattle.distinct.specs.Groups.{picked}
use Rattle.distinct.specs.Scopes.{chosen}
use Rattle.distinct.proofs.Countings.{front_more, rest_more}

append_none : (xs : List ℕ) → xs ++ [] ≡ xs
append_none [] = refl
append_none (x ∷ xs) = ap (λ ys. x ∷ ys) (append_none xs)

pub chosen_in : (scope : List ℕ) (test : ℕ → Bool) (i : ℕ) → test i ≡ true → chosen scope test (suc i) ≡ chosen scope test i ++ get_or scope i 0 ∷ []
chosen_in scope test i e = ap (λ (b : Bool). chosen scope test i ++ cond b (get_or scope i 0 ∷ []) []) e

pub chosen_out : (scope : List ℕ) (test : ℕ → Bool) (i : ℕ) → test i ≡ false → chosen scope test (suc i) ≡ chosen scope test i
chosen_out scope test i e = ap (λ (b : Bool). chosen scope test i ++ cond b (get_or scope i 0 ∷ []) []) e ∙ append_none (chosen scope test i)

module _ (scope : List ℕ) (test : ℕ → Bool) where
  -- what passes is listed
  pub chosen_has : (n k : ℕ) → k < n → test k ≡ true → member (chosen scope test n) (get_or scope k 0) ≡ true
  chosen_has zero k l e = absurd (omega arith)
  chosen_has (suc n) k l e = elim (cases (test n)) [
    | inl y ↦ ap (λ xs. member xs (get_or scope k 0)) (chosen_in scope test n y) ∙ elim (ℕ_discrete k n) [
      | yes q ↦ subst (λ j. member (chosen scope test n ++ get_or scope n 0 ∷ []) (get_or scope j 0) ≡ true) (sym q) (pushed_here (chosen scope test n) (get_or scope n 0))
      | no ne ↦ pushed_has (chosen scope test n) (get_or scope n 0) (get_or scope k 0) (chosen_has n k (omega arith) e)
    ]
    | inr y ↦ ap (λ xs. member xs (get_or scope k 0)) (chosen_out scope test n y) ∙ chosen_has n k (elim (ℕ_discrete k n) [ yes q ↦ absurd (clash (sym (ap test q) ∙ e) y) | no ne ↦ omega arith ]) e
  ]

  -- and nothing else
  pub chosen_is : (n j : ℕ) → member (chosen scope test n) j ≡ true → (k : ℕ) × (k < n) × (test k ≡ true) × (j ≡ get_or scope k 0)
  chosen_is zero j e = absurd (clash refl (sym e))
  chosen_is (suc n) j e = elim (cases (test n)) [
    | inl y ↦ elim (pushed_is (chosen scope test n) (get_or scope n 0) j (sym (ap (λ xs. member xs j) (chosen_in scope test n y)) ∙ e)) [
      | inl h ↦ let (k, l, t, q) = chosen_is n j h in (k, omega arith, t, q)
      | inr q ↦ (n, omega arith, y, q)
    ]
    | inr y ↦ let (k, l, t, q) = chosen_is n j (sym (ap (λ xs. member xs j) (chosen_out scope test n y)) ∙ e) in (k, omega arith, t, q)
  ]

  -- so a job of the scope is listed exactly if its position passes
  pub chosen_member : (m : ℕ) → Scope m scope → (k : ℕ) → k < length scope → test k ≡ member (chosen scope test (length scope)) (get_or scope k 0)
  chosen_member m s k l = same (test k) (member (chosen scope test (length scope)) (get_or scope k 0)) (chosen_has (length scope) k l)
      (λ h. let (i, li, t, q) = chosen_is (length scope) (get_or scope k 0) h in ap test (s.differ k i l li q) ∙ t)
    where
      same : (a b : Bool) → (a ≡ true → b ≡ true) → (b ≡ true → a ≡ true) → a ≡ b
      same true b f g = sym (f refl)
      same false true f g = g refl
      same false false f g = refl

-- ---- in the front of a table

abbrev pub Listed : List ℕ → (ℕ → Bool) → List ℕ → List ℕ → ℕ → ℕ → Type 0
Listed scope test before table len i = (take len table ≡ chosen scope test i) × (drop len table ≡ drop len before) × (len ≤ i)

pub listed_more : (scope : List ℕ) (test : ℕ → Bool) (before table table' : List ℕ) (len len' i v : ℕ) → i < length table → v ≡ get_or scope i 0 → test i ≡ true → Listed scope test before table len i
    → table' ≡ set table len v → len' ≡ len + 1 → Listed scope test before table' len' (i + 1)
listed_more scope test before table table' len len' i v l e y (front, rest, few) et el =
    subst₂ (λ (xs : List ℕ) (n : ℕ). Listed scope test before xs n (i + 1)) (sym et) (sym el) (
      front_more table len v (chosen scope test i) (omega arith) front ∙ (ap (λ x. chosen scope test i ++ x ∷ []) e ∙ (sym (chosen_in scope test i y) ∙ ap (chosen scope test) (sym (add-one i)))),
      rest_more before table len v rest,
      omega arith,
    )

pub listed_same : (scope : List ℕ) (test : ℕ → Bool) (before table table' : List ℕ) (len len' i : ℕ) → test i ≡ false → Listed scope test before table len i
    → table' ≡ table → len' ≡ len → Listed scope test before table' len' (i + 1)
listed_same scope test before table table' len len' i n (front, rest, few) et el =
    subst₂ (λ (xs : List ℕ) (k : ℕ). Listed scope test before xs k (i + 1)) (sym et) (sym el)
    (front ∙ (sym (chosen_out scope test i n) ∙ ap (chosen scope test) (sym (add-one i))), rest, omega arith)

-- ---- by the jobs themselves

picked_push : (ok : ℕ → Bool) (xs : List ℕ) (x : ℕ) → picked ok (xs ++ x ∷ []) ≡ picked ok xs ++ cond (ok x) (x ∷ []) []
picked_push ok [] x = refl
picked_push ok (y ∷ xs) x = by (ok y) (picked_push ok xs x)
  where
    by : (b : Bool) → picked ok (xs ++ x ∷ []) ≡ picked ok xs ++ cond (ok x) (x ∷ []) []
        → cond b (y ∷ picked ok (xs ++ x ∷ [])) (picked ok (xs ++ x ∷ [])) ≡ cond b (y ∷ picked ok xs) (picked ok xs) ++ cond (ok x) (x ∷ []) []
    by true e = ap (λ ys. y ∷ ys) e
    by false e = e

-- a test of jobs that agrees with that of positions picks the same
pub chosen_picked : (scope : List ℕ) (test ok : ℕ → Bool) (n : ℕ) → n ≤ length scope → ((k : ℕ) → k < n → test k ≡ ok (get_or scope k 0)) → chosen scope test n ≡ picked ok (take n scope)
chosen_picked scope test ok zero l h = refl
chosen_picked scope test ok (suc n) l h =
    let lt : n < length scope = omega arith in
    let before : chosen scope test n ≡ picked ok (take n scope) = chosen_picked scope test ok n (omega arith) (λ k b. h k (omega arith)) in
    ap (λ xs. xs ++ cond (test n) (get_or scope n 0 ∷ []) []) before
    ∙ (ap (λ (b : Bool). picked ok (take n scope) ++ cond b (get_or scope n 0 ∷ []) []) (h n (omega arith))
    ∙ (sym (picked_push ok (take n scope) (get_or scope n 0)) ∙ ap (picked ok) (sym (take-suc scope n 0 lt))))
