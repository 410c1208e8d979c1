-- The closure of a set under a table of steps exists.
use Prim.Native.Nat.{ℕ, zero, suc, ◌+◌, ◌<◌, ◌≤◌}
use mathlib.Core.Path.{◌≡◌, sym, ap, subst}
use mathlib.Core.Bool.{Bool, true, false, ◌&&◌, not}
use mathlib.Core.Logic.{inl, inr}
use native.Mathlib.Omega.{arith}
use borrow.Author.Tests.{not-true}
use Rattle.theory.specs.Counts.{count, some}
use Rattle.theory.specs.Reach.{Reach, here, step, Along}
use Rattle.theory.specs.Assignments.{with}
use Rattle.theory.proofs.Sums.{cases, clash, and_left, and_right, both, count_most, count_lt, some_has, some_at}
use Rattle.theory.proofs.Walks.{reach_trans}
use Rattle.theory.proofs.Moves.{with_same, with_has, with_is}

pub record Closure (m : ℕ) (edge : ℕ → ℕ → Bool) (start : ℕ → Bool) : Type 0 where
  pub has : ℕ → Bool
  pub starts : (k : ℕ) → k < m → start k ≡ true → has k ≡ true
  pub closed : (j k : ℕ) → j < m → k < m → has j ≡ true → edge j k ≡ true → has k ≡ true
  pub reached : (k : ℕ) → k < m → has k ≡ true → (i : ℕ) × (i < m) × (start i ≡ true) × Reach (Along m edge) i k

module _ (m : ℕ) (edge : ℕ → ℕ → Bool) (start : ℕ → Bool) where
  abbrev Origin : ℕ → Type 0
  Origin k = (i : ℕ) × (i < m) × (start i ≡ true) × Reach (Along m edge) i k

  abbrev leads_out : (ℕ → Bool) → ℕ → ℕ → Bool
  leads_out X j k = edge j k && not (X k)

  abbrev unclosed : (ℕ → Bool) → Bool
  unclosed X = some (λ j. X j && some (leads_out X j) m) m

  Out : (ℕ → Bool) → Type 0
  Out X = (j : ℕ) × (k : ℕ) × (j < m) × (k < m) × (X j ≡ true) × (edge j k ≡ true) × (X k ≡ false)

  out : (X : ℕ → Bool) → unclosed X ≡ true → Out X
  unfolding Out
  out X e =
      let (j, lj, t) = some_at (λ j. X j && some (leads_out X j) m) m e in
      let (k, lk, u) = some_at (leads_out X j) m (and_right (X j) _ t) in
      (j, k, lj, lk, and_left (X j) _ t, and_left (edge j k) _ u, not-true (X k) (and_right (edge j k) _ u))

  no_out : (X : ℕ → Bool) → unclosed X ≡ false → (j k : ℕ) → j < m → k < m → X j ≡ true → edge j k ≡ true → X k ≡ true
  no_out X e j k lj lk h r = elim (cases (X k)) [
    | inl d ↦ d
    | inr d ↦ absurd (clash (some_has _ m j lj (both h (some_has (leads_out X j) m k lk (both r (ap not d))))) e)
  ]

  -- a set on the way: it has the start, and what it has is reached
  record Part (X : ℕ → Bool) : Type 0 where
    starts : (k : ℕ) → k < m → start k ≡ true → X k ≡ true
    origin : (k : ℕ) → k < m → X k ≡ true → Origin k

  widen : (X : ℕ → Bool) → Part X → Out X → (Y : ℕ → Bool) × Part Y × (count X m < count Y m)
  unfolding Out
  widen X s (j, k, lj, lk, h, r, e) = (
    with X k,
    record {
      starts = λ a l t. with_has X k a (s.starts a l t);
      origin = λ a l t. elim (with_is X k a t) [
        | inl q ↦ subst Origin (sym q) next
        | inr d ↦ s.origin a l d
      ];
    },
    count_lt X (with X k) m k (λ a l. with_has X k a) lk e (with_same X k),
  )
    where
      next : Origin k
      next = let (i, li, t, w) = s.origin j lj h in (i, li, t, reach_trans (Along m edge) i j k w (step (lj, lk, r) here))

  finish : (X : ℕ → Bool) → Part X → unclosed X ≡ false → Closure m edge start
  finish X s e = record { has = X; starts = s.starts; closed = no_out X e; reached = s.origin }

  grow : (n : ℕ) (X : ℕ → Bool) → m ≤ count X m + n → Part X → Closure m edge start
  grow zero X c s = elim (cases (unclosed X)) [
    | inr e ↦ finish X s e
    | inl e ↦ let (Y, t, l) = widen X s (out X e) in absurd (omega (arith, l, count_most Y m))
  ]
  grow (suc n) X c s = elim (cases (unclosed X)) [
    | inr e ↦ finish X s e
    | inl e ↦ let (Y, t, l) = widen X s (out X e) in grow n Y (omega (arith, l)) t
  ]

  pub closure : Closure m edge start
  closure = grow m start (omega arith) (record { starts = λ k l e. e; origin = λ k l e. (k, l, e, here) })
