-- The test of narrowing, in tables, is that of the theory.
use Rattle.std.proofs.Common.{◌≡◌, ℕ, ◌<◌, ◌≤◌, Bool, true, ◌&&◌, ◌||◌, eqb, ltb, List, sym, ap, ◌∙◌, subst, inl, inr, arith, ltb-true, lt-ltb, eq-eqb, eqb-true}
use native.Mathlib.Decide.{ℕ_discrete}
use Rattle.theory.specs.Counts.{bit}
use Rattle.theory.specs.Assignments.{Problem, Full, load, Spare, all, keeps}
use Rattle.theory.specs.SingleRows.{single}
use Rattle.theory.proofs.Sums.{and_left, and_right, both, or_left, or_right, or_cases, sum_eq, some_has, some_at}
use Rattle.matching.specs.Tables.{at, filled}
use Rattle.matching.specs.Matched.{Matched}
use Rattle.matching.proofs.Shifts.{free_spare, held_tight}
use Rattle.components.specs.Walks.{loose}
use Rattle.distinct.specs.Scopes.{stays}

module _ (m w : ℕ) (holds : ℕ → ℕ → Bool) (places holders : List ℕ) (few : m ≤ 65535) (t : Matched m w holds places holders) (full : (i : ℕ) → i < m → filled places i ≡ true) where
  abbrev P : Problem
  P = single m w holds

  load_same : (p : ℕ) → load P all (at places) p ≡ load P (filled places) (at places) p
  load_same p = sum_eq (λ k. bit (eqb (at places k) p)) (λ k. bit (filled places k && eqb (at places k) p)) m (λ k l. sym (ap (λ (b : Bool). bit (b && eqb (at places k) p)) (full k l)))

  pub all_full : Full P (at places)
  all_full = record {
    held = λ i l e. t.valid.held i l (full i l);
    within = λ i l e. t.valid.within i l (full i l);
    fits = λ p l. omega (arith, load_same p, t.valid.fits p l);
  }

  pub free_open : (p : ℕ) → at holders p ≡ 65535 → Spare P all (at places) p
  free_open p e = omega (arith, load_same p, free_spare m w holds places holders p few t e)

  pub spare_free : (p : ℕ) → p < w → Spare P all (at places) p → at holders p ≡ 65535
  spare_free p l s = elim (ℕ_discrete (at holders p) 65535) [
    | yes e ↦ e
    | no ne ↦ absurd (omega (arith, load_same p, s, held_tight m w holds places holders p t l ne))
  ]

  -- the test in tables is the one of the theory
  module _ (labels marks : List ℕ) (i p : ℕ) (lp : p < w) where
    pub stays_keeps : stays places holders labels marks i p ≡ true → keeps P (at places) (loose marks) (at labels) i p ≡ true
    stays_keeps e = elim (or_cases (eqb (at places i) p) _ e) [
      | inl a ↦ or_left _ a
      | inr r ↦ or_right (eqb (at places i) p) (elim (or_cases (eqb (at holders p) 65535) _ r) [
        | inl a ↦ or_left _ (lt-ltb (load P all (at places) p) 1 (free_open p (eqb-true (at holders p) 65535 a)))
        | inr r ↦ elim (ℕ_discrete (at holders p) 65535) [
          | yes f ↦ or_left _ (lt-ltb (load P all (at places) p) 1 (free_open p f))
          | no ne ↦
              let (lh, fh, eh) = t.back p lp ne in
              or_right (ltb (load P all (at places) p) 1)
              (some_has (λ k. eqb (at places k) p && (loose marks k || eqb (at labels k) (at labels i))) m (at holders p) lh (both (eq-eqb (at places (at holders p)) p eh) r))
        ]
      ])
    ]

    pub keeps_stays : keeps P (at places) (loose marks) (at labels) i p ≡ true → stays places holders labels marks i p ≡ true
    keeps_stays e = elim (or_cases (eqb (at places i) p) _ e) [
      | inl a ↦ or_left _ a
      | inr r ↦ or_right (eqb (at places i) p) (elim (or_cases (ltb (load P all (at places) p) 1) _ r) [
        | inl a ↦ or_left _ (eq-eqb (at holders p) 65535 (spare_free p lp (ltb-true (load P all (at places) p) 1 a)))
        | inr r ↦
            let (k, lk, h) = some_at (λ k. eqb (at places k) p && (loose marks k || eqb (at labels k) (at labels i))) m r in
            let q : at holders p ≡ k = sym (ap (at holders) (eqb-true (at places k) p (and_left (eqb (at places k) p) _ h))) ∙ t.taken k lk (full k lk) in
            or_right (eqb (at holders p) 65535) (subst (λ (x : ℕ). (loose marks x || eqb (at labels x) (at labels i)) ≡ true) (sym q) (and_right (eqb (at places k) p) _ h))
      ])
    ]
