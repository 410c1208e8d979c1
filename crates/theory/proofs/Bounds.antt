-- Counting bounds on assignments.
use Prim.Native.Nat.{ℕ, ◌+◌, ◌<◌, ◌≤◌}
use mathlib.Core.Path.{◌≡◌, refl, sym, subst}
use mathlib.Core.Bool.{Bool, true, false, ◌&&◌, ◌||◌, not}
use mathlib.Core.Logic.{◌⊎◌, inl, inr}
use native.Mathlib.Omega.{arith}
use lib.Dec.{eqb}
use borrow.Author.Tests.{eqb-true, eq-eqb}
use Rattle.theory.specs.Counts.{gate, count}
use Rattle.theory.specs.Assignments.{Problem, Valid, Full, load, near, room, all}
use Rattle.theory.proofs.Sums.{and_left, and_right, both, sum_le, gate_le, count_le, count_lt, count_split, count_classes, some_has, some_at}

-- the assigned jobs at the places of N are at most what N takes
pub at_most_room : (P : Problem) (A N : ℕ → Bool) (f : ℕ → ℕ) → Valid P A f → count (λ k. A k && N (f k)) P.jobs ≤ room P N
at_most_room P A N f v =
    omega (
      arith,
      count_classes N A f P.width P.jobs v.within,
      sum_le (λ q. gate (N q) (load P A f q)) (λ q. gate (N q) (P.cap q)) P.width (λ q l. gate_le (N q) _ _ (λ e. v.fits q l)),
    )

-- where no place of N is spare, they are at least that many
pub at_least_room : (P : Problem) (A N : ℕ → Bool) (f : ℕ → ℕ) → Valid P A f → ((q : ℕ) → q < P.width → N q ≡ true → P.cap q ≤ load P A f q) → room P N ≤ count (λ k. A k && N (f k)) P.jobs
at_least_room P A N f v h =
    omega (
      arith,
      count_classes N A f P.width P.jobs v.within,
      sum_le (λ q. gate (N q) (P.cap q)) (λ q. gate (N q) (load P A f q)) P.width (λ q l. gate_le (N q) _ _ (h q l)),
    )

-- a job of S has its list's places near S
pub near_has : (P : Problem) (S : ℕ → Bool) (i p : ℕ) → i < P.jobs → S i ≡ true → P.holds i p ≡ true → near P S p ≡ true
near_has P S i p l s e = some_has _ P.jobs i l (both s e)

-- The jobs of S that are assigned are at most what the places near S take.
pub bound : (P : Problem) (A S : ℕ → Bool) (f : ℕ → ℕ) → Valid P A f → count (λ k. S k && A k) P.jobs ≤ room P (near P S)
bound P A S f v =
    omega (
      arith,
      at_most_room P A (near P S) f v,
      count_le (λ k. S k && A k) (λ k. A k && near P S (f k)) P.jobs (λ k l e.
          let a = and_right (S k) (A k) e in
          both a (near_has P S k (f k) l (and_left (S k) (A k) e) (v.held k l a))),
    )

-- So a set's deficiency is at most the number of jobs without a place.
pub deficiency_bound : (P : Problem) (A S : ℕ → Bool) (f : ℕ → ℕ) → Valid P A f → count S P.jobs ≤ room P (near P S) + count (λ k. not (A k)) P.jobs
deficiency_bound P A S f v =
    omega (
      arith,
      bound P A S f v,
      count_split S A P.jobs,
      count_le (λ k. S k && not (A k)) (λ k. not (A k)) P.jobs (λ k l. and_right (S k) (not (A k))),
    )

-- No full assignment puts i at p, where p is full, and the jobs that would have to give way are closed and have no spare place.
pub no_support : (P : Problem) (f : ℕ → ℕ) (S : ℕ → Bool) (i p : ℕ) → Full P f → i < P.jobs
    → P.cap p ≤ load P all f p
    → ((k : ℕ) → k < P.jobs → f k ≡ p → S k ≡ true)
    → ((j k : ℕ) → j < P.jobs → S j ≡ true → k < P.jobs → P.holds j (f k) ≡ true → S k ≡ true)
    → ((j q : ℕ) → j < P.jobs → S j ≡ true → q < P.width → P.holds j q ≡ true → P.cap q ≤ load P all f q)
    → S i ≡ false
    → (g : ℕ → ℕ) → Full P g → g i ≡ p → ⊥
no_support P f S i p v l fullp holders closed tight out g w e =
    omega (arith, few, lt, at_most_room P all N g w, at_least_room P all N f v full)
  where
    N : ℕ → Bool
    N q = eqb q p || near P S q

    Near : (q : ℕ) → Type 0
    Near q = (q ≡ p) ⊎ ((j : ℕ) × (j < P.jobs) × (S j ≡ true) × (P.holds j q ≡ true))

    inN : (q : ℕ) → near P S q ≡ true → N q ≡ true
    inN q h = go (eqb q p)
      where
        go : (b : Bool) → (b || near P S q) ≡ true
        go true = refl
        go false = h

    outN : (q : ℕ) → N q ≡ true → Near q
    outN q h = go (eqb q p) refl h
      where
        go : (b : Bool) → eqb q p ≡ b → (b || near P S q) ≡ true → Near q
        go true d h = inl (eqb-true q p d)
        go false d h = let (j, m, t) = some_at (λ k. S k && P.holds k q) P.jobs h in inr (j, m, and_left (S j) _ t, and_right (S j) _ t)

    full : (q : ℕ) → q < P.width → N q ≡ true → P.cap q ≤ load P all f q
    full q b h = elim (outN q h) [
      | inl d ↦ subst (λ (x : ℕ). P.cap x ≤ load P all f x) (sym d) fullp
      | inr x ↦ tight x.0 q x.1 x.2 b x.3
    ]

    few : count (λ k. N (f k)) P.jobs ≤ count S P.jobs
    few = count_le (λ k. N (f k)) S P.jobs (λ k m h. elim (outN (f k) h) [
      | inl d ↦ holders k m d
      | inr x ↦ closed x.0 k x.1 x.2 m x.3
    ])

    here : N (g i) ≡ true
    here = go (eqb (g i) p) (eq-eqb (g i) p e)
      where
        go : (b : Bool) → b ≡ true → (b || near P S (g i)) ≡ true
        go b d = simp d

    lt : count S P.jobs < count (λ k. N (g k)) P.jobs
    lt = count_lt S (λ k. N (g k)) P.jobs i (λ k m h. inN (g k) (near_has P S k (g k) m h (w.held k m refl))) l out here
