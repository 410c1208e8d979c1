-- A cut carried out on a table of lists.
use Rattle.std.proofs.Common.{◌≡◌, ℕ, ◌<◌, ◌≤◌, Bool, true, false, not, ◌&&◌, ◌||◌, ◌==◌, List, length, get_or, set, sym, ap, ◌∙◌, ⊎_elim, arith}
use mathlib.Core.Path.{fun_ext}
use Rattle.std.proofs.Math.Bool.{and-true}
use Rattle.std.proofs.lemmas.Bool.{cases_eq, eq-eqb, ne_eqb}
use Rattle.places.specs.Sets.{without, only}
use Rattle.places.specs.Families.{family, struck, fixed}
use Rattle.cuts.specs.Current.{acted}
use Rattle.cuts.specs.declared.cut.Action.{Action}
use Rattle.cuts.specs.declared.cut.Action.TheVariants.{Strike, Fix}
use Rattle.places.proofs.Families.{family_at, family_past, family_set_same, family_set_other}

module _ {L : Type 0} (has : L → ℕ → Bool) (xs : List L) where
  struck_here : (j p : ℕ) (d y : L) → j < length xs → ((q : ℕ) → has y q ≡ without (has (get_or xs j d)) p q) → (i q : ℕ) → family has (set xs j y) i q ≡ struck j p (family has xs) i q
  struck_here j p d y l after i q =
      ⊎_elim
      (λ (e : i ≡ j). ap (λ k. family has (set xs j y) k q) e ∙ family_set_same has xs j y q l ∙ after q ∙ ap (λ b. b && not (q == p)) (sym (family_at has xs j d q l))
      ∙ ap (λ k. family has xs k q && not (q == p)) (sym e) ∙ ap (λ b. family has xs i q && not (b && q == p)) (sym (eq-eqb i j e)))
      (λ ne. family_set_other has xs j i y q ne ∙ sym (and-true (family has xs i q)) ∙ ap (λ b. family has xs i q && not (b && q == p)) (sym (ne_eqb i j ne)))
      (cases_eq i j)

  fixed_here : (j p : ℕ) (d y : L) → j < length xs → ((q : ℕ) → has y q ≡ only (has (get_or xs j d)) p q) → (i q : ℕ) → family has (set xs j y) i q ≡ fixed j p (family has xs) i q
  fixed_here j p d y l after i q =
      ⊎_elim
      (λ (e : i ≡ j). ap (λ k. family has (set xs j y) k q) e ∙ family_set_same has xs j y q l ∙ after q ∙ ap (λ b. b && q == p) (sym (family_at has xs j d q l))
      ∙ ap (λ k. family has xs k q && q == p) (sym e) ∙ ap (λ b. family has xs i q && (not b || q == p)) (sym (eq-eqb i j e)))
      (λ ne. family_set_other has xs j i y q ne ∙ sym (and-true (family has xs i q)) ∙ ap (λ b. family has xs i q && (not b || q == p)) (sym (ne_eqb i j ne)))
      (cases_eq i j)

  pub strikes : (j p : ℕ) (d y : L) → j < length xs → ((q : ℕ) → has y q ≡ without (has (get_or xs j d)) p q) → family has (set xs j y) ≡ struck j p (family has xs)
  strikes j p d y l after = fun_ext (λ i. fun_ext (λ q. struck_here j p d y l after i q))

  pub fixes : (j p : ℕ) (d y : L) → j < length xs → ((q : ℕ) → has y q ≡ only (has (get_or xs j d)) p q) → family has (set xs j y) ≡ fixed j p (family has xs)
  fixes j p d y l after = fun_ext (λ i. fun_ext (λ q. fixed_here j p d y l after i q))

  -- a job past the table has nothing to lose
  past : (j i q : ℕ) (b : Bool) → length xs ≤ j → ((i == j) ≡ false → b ≡ true) → family has xs i q ≡ (family has xs i q && b)
  past j i q b l h =
      ⊎_elim
      (λ (e : i ≡ j). let none : family has xs i q ≡ false = family_past has xs i q (omega arith) in none ∙ sym (ap (λ c. c && b) none))
      (λ ne. sym (and-true (family has xs i q)) ∙ ap (λ c. family has xs i q && c) (sym (h (ne_eqb i j ne))))
      (cases_eq i j)

  pub strikes_past : (j p : ℕ) → length xs ≤ j → family has xs ≡ struck j p (family has xs)
  strikes_past j p l = fun_ext (λ i. fun_ext (λ q. past j i q (not (i == j && q == p)) l (λ e. ap (λ b. not (b && q == p)) e)))

  pub fixes_past : (j p : ℕ) → length xs ≤ j → family has xs ≡ fixed j p (family has xs)
  fixes_past j p l = fun_ext (λ i. fun_ext (λ q. past j i q (not (i == j) || q == p) l (λ e. ap (λ b. not b || q == p) e)))

  pub acts_past : (a : Action) (j p : ℕ) → length xs ≤ j → family has xs ≡ acted a j p (family has xs)
  acts_past Strike j p l = strikes_past j p l
  acts_past Fix j p l = fixes_past j p l
