-- The moves of `shift`, in tables.
use Rattle.std.proofs.Common.{◌≡◌, ℕ, ◌+◌, ◌<◌, ◌≤◌, Bool, true, false, ◌&&◌, nat_eq, ◌≢◌, ◌⊎◌, List, [], length, slice_set, sym, refl, ap, ◌∙◌, subst, subst₂, inl, inr, arith, length-set, get_or-set_other, get_or-set_same, eq-eqb, eqb-true}
use native.Mathlib.Decide.{ℕ_discrete}
use Rattle.theory.specs.Counts.{bit, count}
use Rattle.theory.specs.Assignments.{Valid, Spare, Moving, with}
use Rattle.theory.specs.SingleRows.{single}
use Rattle.theory.proofs.Sums.{cases, both, sum_zero, count_pos, and_left, and_right}
use Rattle.theory.proofs.Moves.{with_same, with_has, with_is, add_valid, count_with}
use Rattle.matching.specs.Tables.{at, filled}
use Rattle.matching.specs.Matched.{Matched}
use Rattle.matching.specs.Searching.{Found}
use Rattle.matching.proofs.Tables.{at_set}
use Rattle.theory.specs.Forest.{Forest}
use Rattle.matching.proofs.Tables.{some_filled, none_filled, filled_set, with_again}
use Rattle.theory.proofs.Forests.{moving_goes_on}

-- nobody has a place that is spare
pub spare_none : (m w : ℕ) (holds : ℕ → ℕ → Bool) (A : ℕ → Bool) (g : ℕ → ℕ) (q i : ℕ) → Spare (single m w holds) A g q → i < m → A i ≡ true → g i ≢ q
spare_none m w holds A g q i s l a e = omega (arith, s, count_pos (λ k. A k && nat_eq (g k) q) m i l (both a (eq-eqb (g i) q e)))

-- a place without a holder is spare
pub free_spare : (m w : ℕ) (holds : ℕ → ℕ → Bool) (places holders : List ℕ) (q : ℕ) → m ≤ 65535 → Matched m w holds places holders → at holders q ≡ 65535
    → Spare (single m w holds) (filled places) (at places) q
free_spare m w holds places holders q few t e =
    let zero : count (λ k. filled places k && nat_eq (at places k) q) m ≡ 0 = sum_zero (λ k. bit (filled places k && nat_eq (at places k) q)) m (λ k l. elim (cases (filled places k && nat_eq (at places k) q)) [
      | inr n ↦ ap bit n
      | inl y ↦ absurd (bad k l (and_left (filled places k) _ y) (eqb-true (at places k) q (and_right (filled places k) _ y)))
    ]) in omega (arith, zero)
  where
    bad : (k : ℕ) → k < m → filled places k ≡ true → at places k ≡ q → ⊥
    bad k l f h = omega (arith, ap (at holders) h ∙ e, t.taken k l f)

-- and one with a holder is not
pub held_tight : (m w : ℕ) (holds : ℕ → ℕ → Bool) (places holders : List ℕ) (p : ℕ) → Matched m w holds places holders → p < w → at holders p ≢ 65535
    → 1 ≤ count (λ k. filled places k && nat_eq (at places k) p) m
held_tight m w holds places holders p t l ne =
    let (h, f, e) = t.back p l ne in
    omega (arith, count_pos (λ k. filled places k && nat_eq (at places k) p) m (at holders p) h (both f (eq-eqb (at places (at holders p)) p e)))

-- the moves of a search's parents have come to `job`, for which `place` is free
pub record Shifting (m w : ℕ) (holds : ℕ → ℕ → Bool) (rank : ℕ → ℕ) (before parents places holders : List ℕ) (job place : ℕ) : Type 0 where
  pub places_fit : m ≤ length places
  pub holders_fit : w ≤ length holders
  pub moving : Moving (single m w holds) (filled before) (at before) (filled parents) rank (at places) job place
  pub same : filled places ≡ filled before
  pub taken : (i : ℕ) → i < m → filled before i ≡ true → at holders (at places i) ≡ i
  pub back : (p : ℕ) → p < w → p ≢ place → at holders p ≢ 65535
      → (at holders p < m) × (filled before (at holders p) ≡ true) × (at places (at holders p) ≡ p)

pub shifting_starts : (m w : ℕ) (holds : ℕ → ℕ → Bool) (places holders parents : List ℕ) (last place : ℕ) → m ≤ 65535 → Matched m w holds places holders
    → (r : Found m w holds places holders parents last place) → Shifting m w holds r.grown.0 places parents places holders last place
shifting_starts m w holds places holders parents last place few t r = record {
  places_fit = t.places_fit;
  holders_fit = t.holders_fit;
  moving = record {
    valid = t.valid;
    job = r.is_job;
    found = r.seen;
    below = r.below;
    listed = r.listed;
    spare = free_spare m w holds places holders place few t r.free;
    same = λ k h. refl;
  };
  same = refl;
  taken = t.taken;
  back = λ p l ne h. t.back p l h;
}

module _ (m w : ℕ) (holds : ℕ → ℕ → Bool) (rank : ℕ → ℕ) (before parents places holders : List ℕ) (job place : ℕ) (narrow : w ≤ 65535) (h : Shifting m w holds rank before parents places holders job place) where
  job_fits : job < length places
  job_fits = omega (arith, h.moving.job, h.places_fit)

  place_fits : place < length holders
  place_fits = omega (arith, h.moving.below, h.holders_fit)

  place_some : place ≢ 65535
  place_some e = omega (arith, h.moving.below, narrow)

  -- the job that moved, and each other job that has a place, is known at it
  moved : at (slice_set holders place job) (at (slice_set places job place) job) ≡ job
  moved = ap (at (slice_set holders place job)) (get_or-set_same places job place 0 job_fits) ∙ get_or-set_same holders place job 0 place_fits

  unmoved : (i : ℕ) → i < m → filled before i ≡ true → i ≢ job → at (slice_set holders place job) (at (slice_set places job place) i) ≡ i
  unmoved i l a ne =
      ap (at (slice_set holders place job)) (get_or-set_other places job i place 0 ne)
      ∙ get_or-set_other holders place (at places i) job 0 (spare_none m w holds (filled before) (at places) place i h.moving.spare l a)
      ∙ h.taken i l a

  known : (i : ℕ) → i < m → (i ≢ job → filled before i ≡ true) → at (slice_set holders place job) (at (slice_set places job place) i) ≡ i
  known i l a = elim (ℕ_discrete i job) [
    | yes e ↦ subst (λ (x : ℕ). at (slice_set holders place job) (at (slice_set places job place) x) ≡ x) (sym e) moved
    | no ne ↦ unmoved i l (a ne) ne
  ]

  -- the holder of a place other than the one that was left
  holder : (p : ℕ) → p < w → p ≢ at places job → at (slice_set holders place job) p ≢ 65535
      → (at (slice_set holders place job) p < m) × ((at (slice_set holders place job) p ≡ job) ⊎ (filled before (at (slice_set holders place job) p) ≡ true)) × (at (slice_set places job place) (at (slice_set holders place job) p) ≡ p)
  holder p l np ne = elim (ℕ_discrete p place) [
    | yes e ↦
        let q : at (slice_set holders place job) p ≡ job = ap (at (slice_set holders place job)) e ∙ get_or-set_same holders place job 0 place_fits in
        (omega (arith, q, h.moving.job), inl q, ap (at (slice_set places job place)) q ∙ get_or-set_same places job place 0 job_fits ∙ sym e)
    | no d ↦
        let q : at (slice_set holders place job) p ≡ at holders p = get_or-set_other holders place p job 0 d in
        let (k, a, o) = h.back p l d (λ z. ne (q ∙ z)) in (
          omega (arith, q, k),
          inr (ap (filled before) q ∙ a),
          ap (at (slice_set places job place)) q ∙ get_or-set_other places job (at holders p) place 0 (λ z. np (sym o ∙ ap (at places) z)) ∙ o,
        )
  ]

  -- one move
  pub shifting_more : Forest (single m w holds) (filled before) (at before) (filled parents) (at parents) rank → at places job ≢ 65535
      → Shifting m w holds rank before parents (slice_set places job place) (slice_set holders place job) (at parents job) (at places job)
  shifting_more t ne =
      let a : filled before job ≡ true = sym (ap (λ (A : ℕ → Bool). A job) h.same) ∙ some ne in
      record {
        places_fit = simp length-set h.places_fit;
        holders_fit = simp length-set h.holders_fit;
        moving = subst (λ (g : ℕ → ℕ). Moving (single m w holds) (filled before) (at before) (filled parents) rank g (at parents job) (at places job)) (sym (at_set places job place job_fits))
            (moving_goes_on (single m w holds) (filled before) (at before) (filled parents) (at parents) rank (at places) job place t h.moving a);
        same = filled_set places job place job_fits place_some ∙ with_again (filled places) job (some ne) ∙ h.same;
        taken = λ i l b. known i l (λ n. b);
        back = λ p l np n. let (k, b, o) = holder p l np n in (k, kind p a b, o);
      }
    where
      some : at places job ≢ 65535 → filled places job ≡ true
      some n = some_filled places job n

      kind : (p : ℕ) → filled before job ≡ true → (at (slice_set holders place job) p ≡ job) ⊎ (filled before (at (slice_set holders place job) p) ≡ true) → filled before (at (slice_set holders place job) p) ≡ true
      kind p a (inl q) = ap (filled before) q ∙ a
      kind p a (inr b) = b

  -- the last move: one more job has a place
  pub shifting_ends : at places job ≡ 65535 → Matched m w holds (slice_set places job place) (slice_set holders place job) × (count (filled (slice_set places job place)) m ≡ count (filled before) m + 1)
  shifting_ends e =
      let a : filled before job ≡ false = sym (ap (λ (A : ℕ → Bool). A job) h.same) ∙ none_filled places job e in
      let now : filled (slice_set places job place) ≡ with (filled before) job = filled_set places job place job_fits place_some ∙ ap (λ (A : ℕ → Bool). with A job) h.same in (
        record {
          places_fit = simp length-set h.places_fit;
          holders_fit = simp length-set h.holders_fit;
          valid = subst₂ (λ (A : ℕ → Bool) (g : ℕ → ℕ). Valid (single m w holds) A g) (sym now) (sym (at_set places job place job_fits))
              (add_valid (single m w holds) (filled before) (at places) job place h.moving.valid h.moving.job a h.moving.below h.moving.listed h.moving.spare);
          taken = λ i l b. known i l (λ n. old now i n b);
          back = λ p l n. let (k, b, o) = holder p l (λ z. omega (arith, z, e, l, narrow)) n in (k, kind now p b, o);
        },
        omega (arith, ap (λ (A : ℕ → Bool). count A m) now, count_with (filled before) job m h.moving.job a),
      )
    where
      old : filled (slice_set places job place) ≡ with (filled before) job → (i : ℕ) → i ≢ job → filled (slice_set places job place) i ≡ true → filled before i ≡ true
      old now i n b = elim (with_is (filled before) job i (sym (ap (λ (A : ℕ → Bool). A i) now) ∙ b)) [ inl q ↦ absurd (n q) | inr r ↦ r ]

      kind : filled (slice_set places job place) ≡ with (filled before) job → (p : ℕ) → (at (slice_set holders place job) p ≡ job) ⊎ (filled before (at (slice_set holders place job) p) ≡ true)
          → filled (slice_set places job place) (at (slice_set holders place job) p) ≡ true
      kind now p (inl q) = ap (λ (A : ℕ → Bool). A (at (slice_set holders place job) p)) now ∙ ap (with (filled before) job) q ∙ with_same (filled before) job
      kind now p (inr b) = ap (λ (A : ℕ → Bool). A (at (slice_set holders place job) p)) now ∙ with_has (filled before) job (at (slice_set holders place job) p) b

-- a job without a place gets a free one of its list
pub matched_gives : (m w : ℕ) (holds : ℕ → ℕ → Bool) (places holders : List ℕ) (job place : ℕ) → m ≤ 65535 → w ≤ 65535 → Matched m w holds places holders → job < m → at places job ≡ 65535
    → place < w → holds job place ≡ true → at holders place ≡ 65535 → Matched m w holds (slice_set places job place) (slice_set holders place job)
matched_gives m w holds places holders job place few narrow t lj none lp h free = (shifting_ends m w holds (λ k. 0) places [] places holders job place narrow start none).0
  where
    start : Shifting m w holds (λ k. 0) places [] places holders job place
    start = record {
      places_fit = t.places_fit;
      holders_fit = t.holders_fit;
      moving = record {
        valid = t.valid;
        job = lj;
        found = refl;
        below = lp;
        listed = h;
        spare = free_spare m w holds places holders place few t free;
        same = λ k l. refl;
      };
      same = refl;
      taken = t.taken;
      back = λ p l ne some. t.back p l some;
    }

-- from `job` on no job has a place
abbrev pub Bare : ℕ → List ℕ → Type 0
Bare job places = (k : ℕ) → job ≤ k → k < length places → at places k ≡ 65535

pub bare_next : (job place : ℕ) (places : List ℕ) → Bare job places → Bare (job + 1) (slice_set places job place)
bare_next job place places bare k l b = get_or-set_other places job k place 0 (λ e. omega arith) ∙ bare k (omega arith) (simp length-set at b)
