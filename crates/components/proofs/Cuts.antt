-- The cuts of a search in a table.
use Rattle.std.proofs.Common.{◌≡◌, ℕ, suc, ◌<◌, ◌≤◌, Bool, true, false, ◌==◌, ◌≢◌, List, length, slice_set, sym, ap, ◌∙◌, subst, inl, inr, arith, get_or-set_other, get_or-set_same, eq-eqb, eqb-true}
use mathlib.Core.Path.{fun_ext}
use native.Mathlib.Decide.{ℕ_discrete, dec_lt}
use Rattle.std.proofs.lemmas.Bool.Decides.{same_from_decides}
use Rattle.theory.specs.Assignments.{with}
use Rattle.theory.proofs.Sums.{cases, some_has, some_at}
use Rattle.theory.proofs.Moves.{with_same, with_has, with_is}
use Rattle.matching.specs.Tables.{at}
use Rattle.components.specs.Walks.{cut}

-- two tests that hold together
same_test : (a b : Bool) → (a ≡ true → b ≡ true) → (b ≡ true → a ≡ true) → a ≡ b
same_test a b f g = same_from_decides a b (f, g) (λ e. e, λ e. e)

pub cut_has : (cuts : List ℕ) (n i z : ℕ) → i < n → at cuts i ≡ z → cut cuts n z ≡ true
cut_has cuts n i z l e = some_has (λ k. at cuts k == z) n i l (eq-eqb (at cuts i) z e)

pub cut_is : (cuts : List ℕ) (n z : ℕ) → cut cuts n z ≡ true → (i : ℕ) × (i < n) × (at cuts i ≡ z)
cut_is cuts n z h = let (i, l, e) = some_at (λ k. at cuts k == z) n h in (i, l, eqb-true (at cuts i) z e)

not_cut : (cuts : List ℕ) (n z : ℕ) → ((i : ℕ) → i < n → at cuts i ≢ z) → cut cuts n z ≡ false
not_cut cuts n z h = elim (cases (cut cuts n z)) [ inr e ↦ e | inl y ↦ let (i, l, e) = cut_is cuts n z y in absurd (h i l e) ]

-- one more
pub cut_push : (cuts : List ℕ) (n v : ℕ) → n < length cuts → cut (slice_set cuts n v) (suc n) ≡ with (cut cuts n) v
cut_push cuts n v l = fun_ext (λ z. same_test (cut (slice_set cuts n v) (suc n) z) (with (cut cuts n) v z)
    (λ h. let (i, li, e) = cut_is (slice_set cuts n v) (suc n) z h in elim (ℕ_discrete i n) [
      | yes q ↦ subst (λ (x : ℕ). with (cut cuts n) v x ≡ true) (sym (get_or-set_same cuts n v 0 l) ∙ (sym (ap (at (slice_set cuts n v)) q) ∙ e)) (with_same (cut cuts n) v)
      | no ne ↦ with_has (cut cuts n) v z (cut_has cuts n i z (omega arith) (sym (get_or-set_other cuts n i v 0 ne) ∙ e))
    ])
    (λ h. elim (with_is (cut cuts n) v z h) [
      | inl q ↦ cut_has (slice_set cuts n v) (suc n) n z (omega arith) (get_or-set_same cuts n v 0 l ∙ sym q)
      | inr o ↦ let (i, li, e) = cut_is cuts n z o in cut_has (slice_set cuts n v) (suc n) i z (omega arith) (get_or-set_other cuts n i v 0 (λ q. omega arith) ∙ e)
    ]))

module _ (cuts : List ℕ) (n : ℕ) (rises : (i j : ℕ) → i < j → j < n → at cuts i < at cuts j) where
  -- after a collapse
  pub collapsed_low : (r low : ℕ) → r ≤ n → ((i : ℕ) → r ≤ i → i < n → low < at cuts i) → (z : ℕ) → z ≤ low → cut cuts r z ≡ cut cuts n z
  collapsed_low r low l above z lz = same_test (cut cuts r z) (cut cuts n z)
      (λ h. let (i, li, e) = cut_is cuts r z h in cut_has cuts n i z (omega arith) e)
      (λ h. let (i, li, e) = cut_is cuts n z h in elim (dec_lt i r) [ yes b ↦ cut_has cuts r i z b e | no nb ↦ absurd (omega (arith, above i (omega arith) li, e)) ])

  pub collapsed_high : (r low : ℕ) → ((i : ℕ) → i < r → at cuts i ≤ low) → (z : ℕ) → low < z → cut cuts r z ≡ false
  collapsed_high r low below z lz = not_cut cuts r z (λ i l e. omega (arith, below i l, e))

  -- without the last
  pub popped_low : (d : ℕ) → suc d ≡ n → (z : ℕ) → z < at cuts d → cut cuts d z ≡ cut cuts n z
  popped_low d e z l = same_test (cut cuts d z) (cut cuts n z)
      (λ h. let (i, li, q) = cut_is cuts d z h in cut_has cuts n i z (omega arith) q)
      (λ h. let (i, li, q) = cut_is cuts n z h in elim (ℕ_discrete i d) [ yes w ↦ absurd (omega (arith, ap (at cuts) w, q)) | no ne ↦ cut_has cuts d i z (omega arith) q ])

  pub popped_high : (d : ℕ) → suc d ≡ n → (z : ℕ) → at cuts d ≤ z → cut cuts d z ≡ false
  popped_high d e z l = not_cut cuts d z (λ i li q. omega (arith, rises i d li (omega arith), q))

  -- a number that is no cut, where no cut is greater
  pub last_not : (d x : ℕ) → suc d ≡ n → at cuts d ≢ x → at cuts d ≤ x → cut cuts n x ≡ false
  last_not d x e ne le = not_cut cuts n x (λ i l q. elim (ℕ_discrete i d) [ yes w ↦ ne (sym (ap (at cuts) w) ∙ q) | no nd ↦ omega (arith, rises i d (omega arith) (omega arith), q) ])
