-- Where each place takes one job, a full assignment is a row with no place twice.
use Prim.Native.Nat.{ℕ, zero, suc, ◌<◌, ◌≤◌}
use mathlib.Core.Path.{◌≡◌, refl, sym, ap, ◌∙◌, subst}
use mathlib.Core.Bool.{Bool, true}
use mathlib.Core.Logic.{◌⊎◌, inl, inr}
use native.Mathlib.Decide.{ℕ_discrete}
use native.Mathlib.Omega.{arith}
use lib.Dec.{eqb}
use borrow.Author.Tests.{eqb-true, eq-eqb}
use Rattle.theory.specs.Counts.{bit, sum, count}
use Rattle.theory.specs.Assignments.{Full}
use Rattle.theory.specs.SingleRows.{single, Row}
use Rattle.theory.proofs.Sums.{cases, sum_zero, count_pos}

-- at most one passes a test that no two pass
pub count_one : (t : ℕ → Bool) (n : ℕ) → ((i j : ℕ) → i < n → j < n → t i ≡ true → t j ≡ true → i ≡ j) → count t n ≤ 1
unfolding sum
count_one t zero h = omega arith
count_one t (suc n) h = elim (cases (t n)) [
  | inl e ↦ omega (
    arith,
    ap bit e,
    sum_zero (λ k. bit (t k)) n (λ k l. elim (cases (t k)) [
      | inl d ↦ absurd (omega (arith, h k n (omega arith) (omega arith) d e))
      | inr d ↦ ap bit d
    ]),
  )
  | inr e ↦ omega (arith, ap bit e, count_one t n (λ i j a b. h i j (omega arith) (omega arith)))
]

-- and the other way
pub one_apart : (t : ℕ → Bool) (n : ℕ) → count t n ≤ 1 → (i j : ℕ) → i < j → j < n → t i ≡ true → t j ≡ true → ⊥
unfolding sum
one_apart t zero c i j a b d e = omega arith
one_apart t (suc n) c i j a b d e = elim (ℕ_discrete j n) [
  | yes q ↦ omega (arith, count_pos t n i (omega arith) d, ap bit (subst (λ (k : ℕ). t k ≡ true) q e))
  | no ne ↦ one_apart t n (omega arith) i j a (omega arith) d e
]

pub full_row : (m w : ℕ) (holds : ℕ → ℕ → Bool) (f : ℕ → ℕ) → Full (single m w holds) f → Row m holds f
full_row m w holds f v = record {
  listed = λ i l. v.held i l refl;
  distinct = λ i j a b e. elim (order i j) [
    | inl o ↦ absurd (one_apart (λ k. eqb (f k) (f j)) m (v.fits (f j) (v.within j b refl)) i j o b (eq-eqb (f i) (f j) e) (eq-eqb (f j) (f j) refl))
    | inr (inl o) ↦ absurd (one_apart (λ k. eqb (f k) (f i)) m (v.fits (f i) (v.within i a refl)) j i o a (eq-eqb (f j) (f i) (sym e)) (eq-eqb (f i) (f i) refl))
    | inr (inr o) ↦ o
  ];
}
  where
    order : (i j : ℕ) → (i < j) ⊎ ((j < i) ⊎ (i ≡ j))
    order i j = elim (native.Mathlib.Decide.dec_lt i j) [
      | yes o ↦ inl o
      | no no_lt ↦ elim (ℕ_discrete i j) [ yes e ↦ inr (inr e) | no ne ↦ inr (inl (omega arith)) ]
    ]

pub row_full : (m w : ℕ) (holds : ℕ → ℕ → Bool) (f : ℕ → ℕ) → ((i p : ℕ) → i < m → holds i p ≡ true → p < w) → Row m holds f → Full (single m w holds) f
row_full m w holds f b r = record {
  held = λ i l t. r.listed i l;
  within = λ i l t. b i (f i) l (r.listed i l);
  fits = λ p d. count_one (λ k. eqb (f k) p) m (λ i j li lj e g. r.distinct i j li lj (eqb-true (f i) p e ∙ sym (eqb-true (f j) p g)));
}
