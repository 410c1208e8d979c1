-- The sifted lists are narrowed.
use Rattle.std.proofs.Common.{◌≡◌, ℕ, ◌<◌, Bool, true, false, ◌&&◌, List, length, get_or, sym, refl, ◌∙◌, subst, arith}
use Rattle.theory.specs.Assignments.{Problem, Full, Searched, keeps}
use Rattle.theory.specs.Assignments as theory
use Rattle.theory.specs.RowSupports.{RowSupport}
use Rattle.theory.specs.SingleRows.{single}
use Rattle.theory.proofs.Sums.{clash, and_left, and_right, both}
use Rattle.theory.proofs.Groups.{stuck_none}
use Rattle.theory.proofs.RowSupports.{row_supports, supports_row}
use Rattle.theory.proofs.Narrowing.{kept_supports, supports_kept}
use Rattle.matching.specs.Tables.{at, filled}
use Rattle.matching.specs.Matched.{Stalled}
use Rattle.places.specs.Families.{Family}
use Rattle.rules.specs.Narrowing.{Support, Narrowed}
use Rattle.rules.specs.Progressions.{no_place_twice}
use Rattle.components.specs.Walks.{setting, FullMatching, loose}
use Rattle.distinct.specs.Scopes.{scoped, Sifted, stays}
use Rattle.distinct.proofs.Divisions.{all_full, stays_keeps, keeps_stays}

module _ (scope : List ℕ) (m w : ℕ) (lm : length scope ≡ m) (before after : Family) (within : (j p : ℕ) → before j p ≡ true → p < w) where
  abbrev P : Problem
  P = single m w (scoped scope before)

  to_theory : (k p : ℕ) → Support scope no_place_twice before k p → theory.Support P k p
  to_theory k p h =
      row_supports P (λ i q l e. within (get_or scope i 0) q e) k p
      (record { row = h.row; sized = h.sized ∙ lm; admitted = h.admitted; here = h.here; drawn = λ i l. h.drawn i (omega arith) })

  from_theory : (k p : ℕ) → k < m → theory.Support P k p → Support scope no_place_twice before k p
  from_theory k p l h =
      let r : RowSupport P k p = supports_row P k p l h in
      record { row = r.row; sized = r.sized ∙ sym lm; admitted = r.admitted; here = r.here; drawn = λ i b. r.drawn i (omega arith) }

  -- a sifted family is narrowed, if the test passes exactly where there is a support
  pub narrowed_by : (ok : ℕ → ℕ → Bool) → Sifted scope m ok before after
      → ((k p : ℕ) → k < m → p < w → before (get_or scope k 0) p ≡ true → ok k p ≡ true → theory.Support P k p)
      → ((k p : ℕ) → k < m → p < w → before (get_or scope k 0) p ≡ true → theory.Support P k p → ok k p ≡ true)
      → Narrowed scope no_place_twice before after
  narrowed_by ok t sound complete = record {
    keeps = λ k p l h.
        let b : k < m = omega arith in
        let held : before (get_or scope k 0) p ≡ true = subst (λ (q : ℕ). before (get_or scope k 0) q ≡ true) h.here (h.drawn k l) in
        t.done k p b ∙ both held (complete k p b (within (get_or scope k 0) p held) held (to_theory k p h));
    supported = λ k p l h.
        let b : k < m = omega arith in
        let g : (before (get_or scope k 0) p && ok k p) ≡ true = sym (t.done k p b) ∙ h in
        let held : before (get_or scope k 0) p ≡ true = and_left (before (get_or scope k 0) p) _ g in
        from_theory k p b (sound k p b (within (get_or scope k 0) p held) held (and_right (before (get_or scope k 0) p) _ g));
    others = λ j p c. t.others j p (λ k l e. c k (omega arith) e);
  }

  -- by a full matching and what was found of it
  pub narrowed_full : (places holders labels marks : List ℕ) → FullMatching (setting m w (scoped scope before) places holders)
      → Searched (single m w (scoped scope before)) (at places) (loose marks) (at labels) → Sifted scope m (stays places holders labels marks) before after → Narrowed scope no_place_twice before after
  narrowed_full places holders labels marks f found sifted =
      let full : Full P (at places) = all_full m w (scoped scope before) places holders f.few f.matched f.every in
      narrowed_by (stays places holders labels marks) sifted
      (λ k p l lp h e. kept_supports P (at places) (loose marks) (at labels) full found k p l lp h (stays_keeps m w (scoped scope before) places holders f.few f.matched f.every labels marks k p lp e))
      (λ k p l lp h e. keeps_stays m w (scoped scope before) places holders f.few f.matched f.every labels marks k p lp (supports_kept P (at places) (loose marks) (at labels) full found k p l lp h e))

  -- where no full matching exists
  pub narrowed_none : (places holders parents : List ℕ) → Stalled m w (scoped scope before) places holders parents → (i : ℕ) → i < m → filled places i ≡ false
      → Sifted scope m (λ k q. false) before after → Narrowed scope no_place_twice before after
  narrowed_none places holders parents t i l e sifted =
      narrowed_by (λ k q. false) sifted (λ k p lk lp h z. absurd (clash z refl))
      (λ k p lk lp h z. absurd (stuck_none P (filled places) (at places) (filled parents) i t.matched.valid t.stuck l e z.at z.full))
