-- Walks of bounded length, and how a walk goes round a number.
use Prim.Native.Nat.{ℕ, zero, suc}
use mathlib.Core.Path.{◌≡◌, refl, ◌∙◌, subst}
use mathlib.Core.Logic.{◌⊎◌, inl, inr, ◌≢◌}
use native.Mathlib.Decide.{ℕ_discrete}
use Rattle.theory.specs.Reach.{Reach, here, step}

-- i comes to j in at most n steps
abbrev pub Steps : (ℕ → ℕ → Type 0) → ℕ → ℕ → ℕ → Type 0
Steps R zero i j = i ≡ j
Steps R (suc n) i j = (i ≡ j) ⊎ ((k : ℕ) × R i k × Steps R n k j)

pub reach_steps : (R : ℕ → ℕ → Type 0) (i j : ℕ) → Reach R i j → (n : ℕ) × Steps R (suc n) i j
reach_steps R i j here = (0, inl refl)
reach_steps R i j (step {j = k} r s) = let (n, t) = reach_steps R k j s in (suc n, inr (k, r, t))

pub reach_trans : (R : ℕ → ℕ → Type 0) (i j k : ℕ) → Reach R i j → Reach R j k → Reach R i k
reach_trans R i j k here t = t
reach_trans R i j k (step {j = l} r s) t = step r (reach_trans R l j k s t)

-- what every step hands on, a walk hands on
pub reach_keeps : (R : ℕ → ℕ → Type 0) (P : ℕ → Type 0) → ((a b : ℕ) → P a → R a b → P b) → (i j : ℕ) → Reach R i j → P i → P j
reach_keeps R P h i j here p = p
reach_keeps R P h i j (step {j = k} r s) p = reach_keeps R P h k j s (h i k p r)

-- A walk that does not start at x goes round x, or a shorter one comes to a number that leads to x. The steps away from x may be
-- those of another relation.
pub avoid : (R Q : ℕ → ℕ → Type 0) (x : ℕ) → ((a b : ℕ) → a ≢ x → b ≢ x → R a b → Q a b) → (n c e : ℕ) → c ≢ x → Steps R (suc n) c e
    → ((e ≢ x) × Steps Q (suc n) c e) ⊎ ((k : ℕ) × (k ≢ x) × R k x × Steps Q n c k)
avoid R Q x h n c e ne (inl d) = inl ((λ z. ne (d ∙ z)), inl d)
avoid R Q x h zero c e ne (inr (k, r, s)) =
    elim (ℕ_discrete k x) [
      | yes d ↦ inr (c, ne, subst (R c) d r, refl)
      | no nk ↦ inl ((λ z. nk (s ∙ z)), inr (k, h c k ne nk r, s))
    ]
avoid R Q x h (suc n) c e ne (inr (k, r, s)) =
    elim (ℕ_discrete k x) [
      | yes d ↦ inr (c, ne, subst (R c) d r, inl refl)
      | no nk ↦ elim (avoid R Q x h n k e nk s) [
        | inl y ↦ inl (y.0, inr (k, h c k ne nk r, y.1))
        | inr y ↦ inr (y.0, y.1, y.2, inr (k, h c k ne nk r, y.3))
      ]
    ]

pub reach_map : (R Q : ℕ → ℕ → Type 0) → ((a b : ℕ) → R a b → Q a b) → (i j : ℕ) → Reach R i j → Reach Q i j
reach_map R Q h i j here = here
reach_map R Q h i j (step {j = k} r s) = step (h i k r) (reach_map R Q h k j s)
