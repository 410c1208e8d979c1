-- The top of a stack.
use Rattle.std.proofs.Common.{◌≡◌, ℕ, ◌<◌, ◌≢◌, true, false, Option, None, Some, MatchOption, ◌==◌, nat_eq, sym, ap, ◌∙◌, arith, eq-eqb, eqb-true}
use Rattle.std.specs.Option.{option_eq}
use Rattle.theory.proofs.Sums.{clash}

module _ (o : Option ℕ) (n v x : ℕ) (top : MatchOption o (n ≡ 0) (λ y. (0 < n) × (v ≡ y))) (some : 0 < n) where
  top_same : option_eq nat_eq o (Some x) ≡ (v == x)
  top_same = by o top
    where
      by : (o : Option ℕ) → MatchOption o (n ≡ 0) (λ y. (0 < n) × (v ≡ y)) → option_eq nat_eq o (Some x) ≡ (v == x)
      by None e = absurd (omega arith)
      by (Some y) e = ap (λ k. k == x) (sym e.1)

  pub top_is : option_eq nat_eq o (Some x) ≡ true → v ≡ x
  top_is e = eqb-true v x (sym top_same ∙ e)

  pub top_not : option_eq nat_eq o (Some x) ≡ false → v ≢ x
  top_not e q = clash (eq-eqb v x q) (sym top_same ∙ e)
