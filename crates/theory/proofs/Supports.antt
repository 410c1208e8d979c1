-- Which full assignments put a job at a place.
use Prim.Native.Nat.{ℕ, suc, ◌+◌, ◌<◌, ◌≤◌}
use mathlib.Core.Path.{◌≡◌, refl, sym, ap, ◌∙◌, subst}
use mathlib.Core.Bool.{Bool, true, false, ◌&&◌, ◌||◌, not, true≢false}
use mathlib.Core.Logic.{◌⊎◌, inl, inr, ◌≢◌}
use native.Mathlib.Decide.{ℕ_discrete}
use native.Mathlib.Omega.{arith}
use lib.Dec.{eqb}
use borrow.Author.Tests.{eqb-true, eq-eqb, ne_eqb}
use Rattle.theory.specs.Counts.{bit}
use Rattle.theory.specs.Assignments.{Problem, Valid, Full, load, Spare, all, Leads, Open, put, Support, Yields}
use Rattle.theory.proofs.Sums.{and_left, and_right, both}
use Rattle.theory.proofs.Walks.{Steps, reach_steps, avoid}
use Rattle.theory.proofs.Moves.{put_same, put_other, put_keeps, load_put, move_valid, relieve, Relieved, bit_eq}

-- the problem where i has only p, and p takes one more
fixed : Problem → ℕ → ℕ → Problem
fixed P i p = record {
  jobs = P.jobs;
  width = P.width;
  holds = λ j q. P.holds j q && (not (eqb j i) || eqb q p);
  cap = λ q. P.cap q + bit (eqb p q);
}

pub support_own : (P : Problem) (f : ℕ → ℕ) (i p : ℕ) → Full P f → f i ≡ p → Support P i p
support_own P f i p v e = record { at = f; full = v; takes = e }

pub support_spare : (P : Problem) (f : ℕ → ℕ) (i p : ℕ) → Full P f → i < P.jobs → p < P.width → P.holds i p ≡ true → Spare P all f p → Support P i p
support_spare P f i p v l b h s = record { at = put f i p; full = move_valid P all f i p v l refl b h s; takes = put_same f i p }

module _ (P : Problem) (f : ℕ → ℕ) (i p : ℕ) (v : Full P f) (l : i < P.jobs) (b : p < P.width) (h : P.holds i p ≡ true) where
  P' : Problem
  P' = fixed P i p

  f' : ℕ → ℕ
  f' = put f i p

  free : (j q : ℕ) → j ≢ i → P.holds j q ≡ true → P'.holds j q ≡ true
  unfolding P' fixed
  free j q ne t = both t (simp (ne_eqb j i ne))

  loads : (q : ℕ) → load P' all f' q + bit (eqb (f i) q) ≡ load P all f q + bit (eqb p q)
  unfolding P' fixed f'
  loads q = load_put P all f i p q l refl

  full' : Valid P' all f'
  unfolding P' fixed f'
  full' = record {
    held = λ k m t. put_keeps (λ j q. P'.holds j q ≡ true) f i p k (both h (or_true (not (eqb i i)) (eqb p p) (eq-eqb p p refl))) (λ ne. free k (f k) ne (v.held k m refl));
    within = λ k m t. put_keeps (λ j q. q < P.width) f i p k b (λ ne. v.within k m refl);
    fits = λ q d. omega (arith, loads q, v.fits q d);
  }
    where
      or_true : (x y : Bool) → y ≡ true → (x || y) ≡ true
      or_true true y e = refl
      or_true false y e = e

  kept : (j k : ℕ) → j ≢ i → k ≢ i → Leads P all f j k → Leads P' all f' j k
  unfolding P' fixed f'
  kept j k nj nk (m, t, e) = (m, refl, free j (f' k) nj (subst (λ (q : ℕ). P.holds j q ≡ true) (sym (put_other f i p k nk)) e))

  open_own : (k : ℕ) → k ≢ i → P.holds k (f i) ≡ true → Open P' all f' k
  unfolding P' fixed
  open_own k ne t = record {
    place = f i;
    below = v.within i l refl;
    listed = free k (f i) ne t;
    spare = omega (arith, loads (f i), v.fits (f i) (v.within i l refl), ap bit (eq-eqb (f i) (f i) refl));
  }

  open_kept : (k : ℕ) → k ≢ i → Open P all f k → Open P' all f' k
  unfolding P' fixed
  open_kept k ne o = record {
    place = o.place;
    below = o.below;
    listed = free k o.place ne o.listed;
    spare = omega (arith, loads o.place, o.spare);
  }

  -- what relieves p with i fixed is a support without
  relieved_supports : Relieved P' all p → Support P i p
  unfolding P' fixed
  relieved_supports (g, u, s) = record {
    at = g;
    full = record {
      held = λ k m t. and_left (P.holds k (g k)) _ (u.held k m t);
      within = u.within;
      fits = λ q d. elim (bit_eq p q) [
        | inl (e, o) ↦ subst (λ (x : ℕ). load P all g x ≤ P.cap x) e (omega (arith, ap bit (eq-eqb p p refl)))
        | inr (ne, o) ↦ omega (arith, u.fits q d)
      ];
    };
    takes = eqb-true (g i) p (only (eqb i i) (eqb (g i) p) (eq-eqb i i refl) (and_right (P.holds i (g i)) _ (u.held i l refl)));
  }
    where
      only : (x y : Bool) → x ≡ true → (not x || y) ≡ true → y ≡ true
      only true y d e = e
      only false y d e = absurd (true≢false (sym d))

  around : (k n e : ℕ) → k < P.jobs → f k ≡ p → k ≢ i → Steps (Leads P all f) (suc n) k e → (e ≡ i) ⊎ Open P all f e → Relieved P' all p
  unfolding P' fixed f'
  around k n e m d ne w o = elim (avoid (Leads P all f) (Leads P' all f') i kept n k e ne w) [
    | inl (ni, s) ↦ at_end (suc n) e s (elim o [ inl z ↦ absurd (ni z) | inr y ↦ open_kept e ni y ])
    | inr (j, nj, r, s) ↦ at_end n j s (open_own j nj r.2)
  ]
    where
      at_end : (n e : ℕ) → Steps (Leads P' all f') n k e → Open P' all f' e → Relieved P' all p
      at_end n e s o = subst (Relieved P' all) (put_other f i p k ne ∙ d) (relieve P' all n f' k e full' m refl s o)

  pub support_yields : Yields P f i p → Support P i p
  support_yields y = elim (ℕ_discrete y.holder i) [
    | yes e ↦ support_own P f i p v (ap f (sym e) ∙ y.there)
    | no ne ↦ let (n, w) = reach_steps (Leads P all f) y.holder y.last y.walk in
        relieved_supports (around y.holder n y.last y.job y.there ne w y.ends)
  ]

  -- A full assignment gives one that puts i at p, if i is there, p is spare, or a job at p yields.
  pub support : (f i ≡ p) ⊎ (Spare P all f p ⊎ Yields P f i p) → Support P i p
  support (inl e) = support_own P f i p v e
  support (inr (inl s)) = support_spare P f i p v l b h s
  support (inr (inr y)) = support_yields y
