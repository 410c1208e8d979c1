-- The test that narrowing makes is right: a place passes exactly if a full assignment puts its job there.
use Prim.Native.Nat.{ℕ, ◌<◌, ◌≤◌}
use mathlib.Core.Path.{◌≡◌, refl, sym, ap, subst}
use mathlib.Core.Bool.{Bool, true, false, ◌&&◌, ◌||◌, not}
use mathlib.Core.Logic.{◌⊎◌, inl, inr, ◌≢◌}
use native.Mathlib.Decide.{dec_lt}
use native.Mathlib.Omega.{arith}
use lib.Dec.{eqb, ltb}
use borrow.Author.Tests.{eqb-true, eq-eqb, ltb-true, lt-ltb, le-ltb, not-true}
use Rattle.theory.specs.Assignments.{Problem, Full, load, all, Support, Yields, Searched, keeps}
use Rattle.theory.proofs.Sums.{cases, clash, and_left, and_right, both, or_left, or_right, or_cases, some_has, some_at}
use Rattle.theory.proofs.Bounds.{no_support}
use Rattle.theory.proofs.Supports.{support}

module _ (P : Problem) (f : ℕ → ℕ) (loose : ℕ → Bool) (comp : ℕ → ℕ) (v : Full P f) (s : Searched P f loose comp)
    (i p : ℕ) (l : i < P.jobs) (b : p < P.width) (h : P.holds i p ≡ true) where
  abbrev gives : ℕ → Bool
  gives k = loose k || eqb (comp k) (comp i)

  yields : (k : ℕ) → k < P.jobs → f k ≡ p → (loose k ≡ true) ⊎ (eqb (comp k) (comp i) ≡ true) → Yields P f i p
  yields k m e (inl t) = let (j, w, o) = s.frees k m t in record { holder = k; job = m; there = e; last = j; walk = w; ends = inr o }
  yields k m e (inr t) = record { holder = k; job = m; there = e; last = i; walk = s.linked k i m l (eqb-true (comp k) (comp i) t); ends = inl refl }

  pub kept_supports : keeps P f loose comp i p ≡ true → Support P i p
  kept_supports t = support P f i p v l b h (elim (or_cases (eqb (f i) p) _ t) [
    | inl e ↦ inl (eqb-true (f i) p e)
    | inr r ↦ elim (or_cases (ltb (load P all f p) (P.cap p)) _ r) [
      | inl e ↦ inr (inl (ltb-true _ _ e))
      | inr e ↦ inr (inr (from_some (some_at _ P.jobs e)))
    ]
  ])
    where
      from_some : (k : ℕ) × (k < P.jobs) × ((eqb (f k) p && gives k) ≡ true) → Yields P f i p
      from_some (k, m, e) = yields k m (eqb-true (f k) p (and_left (eqb (f k) p) _ e)) (or_cases (loose k) _ (and_right (eqb (f k) p) _ e))

  -- the jobs of smaller components from which no walk comes to a spare place
  abbrev rest : ℕ → Bool
  rest j = ltb (comp j) (comp i) && not (loose j)

  rest_has : (j : ℕ) → comp j < comp i → loose j ≡ false → rest j ≡ true
  rest_has j a e = both (lt-ltb (comp j) (comp i) a) (ap not e)

  rest_smaller : (j : ℕ) → rest j ≡ true → comp j < comp i
  rest_smaller j e = ltb-true (comp j) (comp i) (and_left (ltb (comp j) (comp i)) _ e)

  rest_tight : (j : ℕ) → rest j ≡ true → loose j ≡ false
  rest_tight j e = not-true (loose j) (and_right (ltb (comp j) (comp i)) _ e)

  stays_tight : (j k : ℕ) → j < P.jobs → k < P.jobs → P.holds j (f k) ≡ true → loose j ≡ false → loose k ≡ false
  stays_tight j k lj lk t e = elim (cases (loose k)) [ inl d ↦ absurd (clash (s.next_loose j k lj lk t d) e) | inr d ↦ d ]

  pub dropped_lacks : keeps P f loose comp i p ≡ false → Support P i p → ⊥
  dropped_lacks t g = no_support P f rest i p v l full holders
      (λ j k lj e lk d. rest_has k (omega (arith, s.falls j k lj lk d, rest_smaller j e)) (stays_tight j k lj lk d (rest_tight j e)))
      (λ j q lj e bq d. elim (dec_lt (load P all f q) (P.cap q)) [
        | yes y ↦ absurd (clash (s.open_loose j q lj bq d y) (rest_tight j e))
        | no n ↦ omega arith
      ])
      (no_left _ (le-ltb (comp i) (comp i) (omega arith)))
      g.at g.full g.takes
    where
      no_left : {x : Bool} (y : Bool) → x ≡ false → (x && y) ≡ false
      no_left y e = simp e

      no_give : (k : ℕ) → k < P.jobs → f k ≡ p → gives k ≡ true → ⊥
      no_give k m e d = clash (or_right (eqb (f i) p) (or_right (ltb (load P all f p) (P.cap p)) (some_has _ P.jobs k m (both (eq-eqb (f k) p e) d)))) t

      full : P.cap p ≤ load P all f p
      full = elim (dec_lt (load P all f p) (P.cap p)) [
        | yes y ↦ absurd (clash (or_right (eqb (f i) p) (or_left _ (lt-ltb _ _ y))) t)
        | no n ↦ omega arith
      ]

      holders : (k : ℕ) → k < P.jobs → f k ≡ p → rest k ≡ true
      holders k m e =
          let a : comp k ≤ comp i = s.falls i k l m (subst (λ (q : ℕ). P.holds i q ≡ true) (sym e) h) in
          let n : comp k ≢ comp i = λ q. no_give k m e (or_right (loose k) (eq-eqb (comp k) (comp i) q)) in
          rest_has k (omega arith) (elim (cases (loose k)) [ inl d ↦ absurd (no_give k m e (or_left _ d)) | inr d ↦ d ])

  pub supports_kept : Support P i p → keeps P f loose comp i p ≡ true
  supports_kept g = elim (cases (keeps P f loose comp i p)) [ inl e ↦ e | inr e ↦ absurd (dropped_lacks e g) ]
