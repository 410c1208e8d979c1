-- The group of a family: what an assignment that cannot be extended says of deficiencies.
use Prim.Native.Nat.{ℕ, ◌<◌, ◌≤◌}
use mathlib.Core.Path.{◌≡◌, refl, ap, ◌∙◌}
use mathlib.Core.Bool.{Bool, true, false, ◌&&◌, not}
use native.Mathlib.Omega.{arith}
use borrow.Author.Tests.{not-true}
use Rattle.theory.specs.Counts.{gate, count}
use Rattle.theory.specs.Assignments.{Problem, Valid, Full, load, all, near, room, missing, Leads, Stuck, Reached, Deficient, Group}
use Rattle.theory.proofs.Sums.{and_left, and_right, both, sum_zero, count_le, count_eq, count_pos, count_tight, count_split, count_same, some_at, some_same, sum_eq}
use Rattle.theory.proofs.Walks.{reach_keeps}
use Rattle.theory.proofs.Bounds.{at_most_room, at_least_room, near_has, bound, deficiency_bound}

-- the assigned jobs of S are at places near S
pub near_own : (P : Problem) (A S : ℕ → Bool) (f : ℕ → ℕ) → Valid P A f → (k : ℕ) → k < P.jobs → (S k && A k) ≡ true → (A k && near P S (f k)) ≡ true
near_own P A S f v k l e =
    let a = and_right (S k) (A k) e in
    both a (near_has P S k (f k) l (and_left (S k) (A k) e) (v.held k l a))

-- the jobs at places near S, where S is closed, are those of S
near_closed : (P : Problem) (A S : ℕ → Bool) (f : ℕ → ℕ) → ((j k : ℕ) → j < P.jobs → S j ≡ true → Leads P A f j k → S k ≡ true) → (k : ℕ) → k < P.jobs → (A k && near P S (f k)) ≡ true → (S k && A k) ≡ true
near_closed P A S f closed k l e =
    let a = and_left (A k) _ e in
    let (j, m, t) = some_at (λ i. S i && P.holds i (f k)) P.jobs (and_right (A k) _ e) in
    both (closed j k m (and_left (S j) _ t) (l, a, and_right (S j) _ t)) a

-- the deficiency of R is the number of jobs without a place
pub stuck_deficient : (P : Problem) (A : ℕ → Bool) (f : ℕ → ℕ) (R : ℕ → Bool) → Valid P A f → Stuck P A f R → Deficient P R (missing P A)
stuck_deficient P A f R v s =
    omega (
      arith,
      count_split R A P.jobs,
      count_eq (λ k. R k && A k) (λ k. A k && near P R (f k)) P.jobs (near_own P A R f v) (near_closed P A R f s.closed),
      count_eq (λ k. R k && not (A k)) (λ k. not (A k)) P.jobs (λ k l. and_right (R k) _) (λ k l e. both (s.starts k l (not-true (A k) e)) e),
      at_most_room P A (near P R) f v,
      at_least_room P A (near P R) f v full,
    )
  where
    full : (q : ℕ) → q < P.width → near P R q ≡ true → P.cap q ≤ load P A f q
    full q b e = let (j, m, t) = some_at (λ i. R i && P.holds i q) P.jobs e in s.tight j q m (and_left (R j) _ t) b (and_right (R j) _ t)

module _ (P : Problem) (A : ℕ → Bool) (f : ℕ → ℕ) (v : Valid P A f) (S : ℕ → Bool) (deficient : Deficient P S (missing P A)) where
  -- a set with that deficiency holds every job without a place
  has_starts : (k : ℕ) → k < P.jobs → A k ≡ false → S k ≡ true
  has_starts k l a = and_left (S k) _
      (count_tight (λ k. S k && not (A k)) (λ k. not (A k)) P.jobs (λ j m. and_right (S j) _)
      (omega (arith, count_split S A P.jobs, bound P A S f v)) k l (ap not a))

  -- and is closed
  has_next : (j k : ℕ) → j < P.jobs → S j ≡ true → Leads P A f j k → S k ≡ true
  has_next j k m e (l, a, h) = and_left (S k) _
      (count_tight (λ k. S k && A k) (λ k. A k && near P S (f k)) P.jobs (near_own P A S f v)
      (omega (
        arith,
        count_split S A P.jobs,
        at_most_room P A (near P S) f v,
        count_le (λ k. S k && not (A k)) (λ k. not (A k)) P.jobs (λ j m. and_right (S j) _),
      ))
      k l (both a (near_has P S j (f k) m e h)))

  -- so it holds all that they reach
  pub has_reached : (R : ℕ → Bool) → Reached P A f R → (k : ℕ) → k < P.jobs → R k ≡ true → S k ≡ true
  has_reached R r k l e =
      let (i, m, a, w) = r k l e in
      (reach_keeps (Leads P A f) (λ j. (j < P.jobs) × (S j ≡ true)) (λ x y p s. (s.0, has_next x y p.0 p.1 s)) i k w (m, has_starts i m a)).1

-- The jobs that those without a place reach are the group, and its deficiency is their number.
pub stuck_group : (P : Problem) (A : ℕ → Bool) (f : ℕ → ℕ) (R : ℕ → Bool) → Valid P A f → Stuck P A f R → Reached P A f R → Group P R (missing P A)
stuck_group P A f R v s r = record {
  deficient = stuck_deficient P A f R v s;
  greatest = λ S. deficiency_bound P A S f v;
  least = λ S h. has_reached P A f v S h R r;
}

-- A problem with a stuck assignment that lacks a job has no full one.
pub stuck_none : (P : Problem) (A : ℕ → Bool) (f : ℕ → ℕ) (R : ℕ → Bool) (i : ℕ) → Valid P A f → Stuck P A f R → i < P.jobs → A i ≡ false → (g : ℕ → ℕ) → Full P g → ⊥
stuck_none P A f R i v s l a g w =
    omega (arith, stuck_deficient P A f R v s, deficiency_bound P all R g w, count_pos (λ k. not (A k)) P.jobs i l (ap not a), none P.jobs)
  where
    none : (n : ℕ) → count (λ k. not (all k)) n ≡ 0
    none n = sum_zero _ n (λ k l. refl)

-- ---- sets that agree on the jobs

near_same : (P : Problem) (R S : ℕ → Bool) → ((k : ℕ) → k < P.jobs → R k ≡ S k) → (p : ℕ) → near P R p ≡ near P S p
near_same P R S h p = some_same (λ k. R k && P.holds k p) (λ k. S k && P.holds k p) P.jobs (λ k l. ap (λ b. b && P.holds k p) (h k l))

room_same : (P : Problem) (R S : ℕ → Bool) → ((k : ℕ) → k < P.jobs → R k ≡ S k) → room P (near P R) ≡ room P (near P S)
room_same P R S h = sum_eq _ _ P.width (λ p l. ap (λ b. gate b (P.cap p)) (near_same P R S h p))

-- a set that agrees with the group is the group
pub group_same : (P : Problem) (R S : ℕ → Bool) (d : ℕ) → ((k : ℕ) → k < P.jobs → R k ≡ S k) → Group P R d → Group P S d
group_same P R S d h g = record {
  deficient = omega (arith, g.deficient, room_same P R S h, count_same R S P.jobs h);
  greatest = g.greatest;
  least = λ T t k l e. g.least T t k l (h k l ∙ e);
}
