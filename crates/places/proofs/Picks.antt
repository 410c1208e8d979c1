-- Laws of `only`.
use Rattle.std.proofs.Common.{◌≡◌, ℕ, Bool, true, false, ◌&&◌, eqb, sym, ap, ◌∙◌, ⊎_elim}
use Rattle.std.proofs.lemmas.Bool.{cases_Bool, eqb-true, and_right, and_left}
use Rattle.places.specs.Sets.{only}

module _ (s : ℕ → Bool) (p q : ℕ) where
  at : (b : Bool) → s p ≡ b → eqb q p ≡ true → s q ≡ b
  at b h e = ap s (eqb-true q p e) ∙ h

  pub only_held : s p ≡ true → only s p q ≡ eqb q p
  only_held h =
      ⊎_elim (λ e. ap (λ b. b && eqb q p) (at true h e)) (λ e. and_right (s q) (eqb q p) e ∙ sym e) (cases_Bool (eqb q p))

  pub only_missed : s p ≡ false → only s p q ≡ false
  only_missed h =
      ⊎_elim (λ e. and_left (s q) (eqb q p) (at false h e)) (λ e. and_right (s q) (eqb q p) e) (cases_Bool (eqb q p))
