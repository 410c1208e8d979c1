-- Moves along the parents of a search forest.
use Prim.Native.Nat.{ℕ, zero, suc, ◌<◌, ◌≤◌}
use mathlib.Core.Path.{◌≡◌, refl, sym, ap, ◌∙◌, subst}
use mathlib.Core.Bool.{Bool, true, false, cond}
use mathlib.Core.Logic.{◌≢◌, inl, inr}
use native.Mathlib.Omega.{arith}
use Rattle.theory.specs.Counts.{count}
use Rattle.theory.specs.Reach.{Reach, here, step}
use Rattle.theory.specs.Assignments.{Leads, Open, Problem, Valid, put, with, Moving}
use Rattle.theory.proofs.Sums.{cases, clash, count_pos, count_lt, count_most}
use Rattle.theory.proofs.Walks.{reach_trans}
use Rattle.theory.proofs.Moves.{put_same, put_keeps, with_same, with_has, with_is, apart_by, put_other, move_valid, move_frees, add_valid}
use Rattle.theory.specs.Forest.{Forest, climb}

-- before the first move
pub moving_starts : (P : Problem) (A : ℕ → Bool) (f : ℕ → ℕ) (seen : ℕ → Bool) (rank : ℕ → ℕ) (e : ℕ) → Valid P A f → e < P.jobs → seen e ≡ true → (o : Open P A f e) → Moving P A f seen rank f e o.place
moving_starts P A f seen rank e v l s o =
    record { valid = v; job = l; found = s; below = o.below; listed = o.listed; spare = o.spare; same = λ k h. refl }

-- one move: c takes q, and its old place is spare for its parent
pub moving_goes_on : (P : Problem) (A : ℕ → Bool) (f : ℕ → ℕ) (seen : ℕ → Bool) (parent rank g : ℕ → ℕ) (c q : ℕ)
    → Forest P A f seen parent rank → Moving P A f seen rank g c q → A c ≡ true → Moving P A f seen rank (put g c q) (parent c) (g c)
moving_goes_on P A f seen parent rank g c q t w a =
    let r : rank (parent c) < rank c = t.parent_rank c w.job w.found a in
    record {
      valid = move_valid P A g c q w.valid w.job a w.below w.listed w.spare;
      job = t.parent_job c w.job w.found a;
      found = t.parent_seen c w.job w.found a;
      below = w.valid.within c w.job a;
      listed = subst (λ (x : ℕ). P.holds (parent c) x ≡ true) (sym (w.same c (omega arith))) (t.parent_holds c w.job w.found a);
      spare = move_frees P A g c q w.valid w.job a w.spare;
      same = λ k h. put_other g c q k (λ e. apart k h e r) ∙ w.same k (omega arith);
    }
  where
    apart : (k : ℕ) → rank k ≤ rank (parent c) → k ≡ c → rank (parent c) < rank c → ⊥
    apart k h e r = omega (arith, ap rank e)

-- the last move: a job outside A gets its place
pub moving_ends : (P : Problem) (A : ℕ → Bool) (f : ℕ → ℕ) (seen : ℕ → Bool) (rank g : ℕ → ℕ) (c q : ℕ) → A c ≡ false → Moving P A f seen rank g c q → Valid P (with A c) (put g c q)
moving_ends P A f seen rank g c q a w = add_valid P A g c q w.valid w.job a w.below w.listed w.spare

-- a search begins with jobs outside A
pub forest_starts : (P : Problem) (A : ℕ → Bool) (f : ℕ → ℕ) (seen : ℕ → Bool) (parent : ℕ → ℕ) → ((k : ℕ) → k < P.jobs → seen k ≡ true → A k ≡ false) → Forest P A f seen parent (λ k. 0)
forest_starts P A f seen parent h = record {
  parent_job = λ k l e a. absurd (clash a (h k l e));
  parent_seen = λ k l e a. absurd (clash a (h k l e));
  parent_rank = λ k l e a. absurd (clash a (h k l e));
  parent_holds = λ k l e a. absurd (clash a (h k l e));
  rank_small = λ k l e. count_pos seen P.jobs k l e;
}

-- a job that was not seen, whose place a job that was seen could take, joins it
pub forest_grows : (P : Problem) (A : ℕ → Bool) (f : ℕ → ℕ) (seen : ℕ → Bool) (parent rank : ℕ → ℕ) (c k : ℕ)
    → Forest P A f seen parent rank → c < P.jobs → seen c ≡ true → seen k ≡ false → Leads P A f c k
    → Forest P A f (with seen k) (put parent k c) (put rank k (suc (rank c)))
forest_grows P A f seen parent rank c k t lc sc sk (lk, ak, h) = record {
  parent_job = λ x l e a. put_keeps (λ j p. p < P.jobs) parent k c x lc (λ nk. t.parent_job x l (old x nk e) a);
  parent_seen = λ x l e a. put_keeps (λ j p. with seen k p ≡ true) parent k c x (with_has seen k c sc) (λ nk. with_has seen k (parent x) (t.parent_seen x l (old x nk e) a));
  parent_rank = λ x l e a. put_keeps (λ j p. rank' p < rank' j) parent k c x (omega (arith, same c sc, put_same rank k (suc (rank c))))
      (λ nk. omega (arith, same (parent x) (t.parent_seen x l (old x nk e) a), same x (old x nk e), t.parent_rank x l (old x nk e) a));
  parent_holds = λ x l e a. put_keeps (λ j p. P.holds p (f j) ≡ true) parent k c x h (λ nk. t.parent_holds x l (old x nk e) a);
  rank_small = λ x l e. put_keeps (λ j r. r < count (with seen k) P.jobs) rank k (suc (rank c)) x
      (omega (arith, more, t.rank_small c lc sc)) (λ nk. omega (arith, more, t.rank_small x l (old x nk e)));
}
  where
    more : count seen P.jobs < count (with seen k) P.jobs
    more = count_lt seen (with seen k) P.jobs k (λ x l. with_has seen k x) lk sk (with_same seen k)

    rank' : ℕ → ℕ
    rank' = put rank k (suc (rank c))

    old : (x : ℕ) → x ≢ k → with seen k x ≡ true → seen x ≡ true
    old x nk e = elim (with_is seen k x e) [ inl q ↦ absurd (nk q) | inr s ↦ s ]

    same : (x : ℕ) → seen x ≡ true → rank' x ≡ rank x
    same x s = put_other rank k (suc (rank c)) x (apart_by seen x k s sk)

climb_root : (A : ℕ → Bool) (parent : ℕ → ℕ) (n k : ℕ) → A k ≡ false → climb A parent n k ≡ 0
unfolding climb
climb_root A parent zero k e = refl
climb_root A parent (suc n) k e = ap (λ (b : Bool). cond b (suc (climb A parent n (parent k))) 0) e

climb_up : (A : ℕ → Bool) (parent : ℕ → ℕ) (n k : ℕ) → A k ≡ true → climb A parent (suc n) k ≡ suc (climb A parent n (parent k))
unfolding climb
climb_up A parent n k e = ap (λ (b : Bool). cond b (suc (climb A parent n (parent k))) 0) e

module _ (P : Problem) (A : ℕ → Bool) (f : ℕ → ℕ) (seen : ℕ → Bool) (parent rank : ℕ → ℕ) (t : Forest P A f seen parent rank) where
  climb_stable : (n k : ℕ) → k < P.jobs → seen k ≡ true → rank k ≤ n → climb A parent (suc n) k ≡ climb A parent n k
  climb_stable zero k l e h = elim (cases (A k)) [
    | inr q ↦ climb_root A parent 1 k q ∙ sym (climb_root A parent 0 k q)
    | inl a ↦ absurd (omega (arith, t.parent_rank k l e a))
  ]
  climb_stable (suc n) k l e h = elim (cases (A k)) [
    | inr q ↦ climb_root A parent (suc (suc n)) k q ∙ sym (climb_root A parent (suc n) k q)
    | inl a ↦ omega (
      arith,
      climb_up A parent (suc n) k a,
      climb_up A parent n k a,
      climb_stable n (parent k) (t.parent_job k l e a) (t.parent_seen k l e a) (omega (arith, t.parent_rank k l e a)),
    )
  ]

  -- a parent is nearer to a job outside A
  pub climb_falls : (n k : ℕ) → P.jobs ≤ n → k < P.jobs → seen k ≡ true → A k ≡ true → climb A parent n (parent k) < climb A parent n k
  climb_falls zero k b l e a = absurd (omega arith)
  climb_falls (suc n) k b l e a =
      omega (
        arith,
        climb_up A parent n k a,
        climb_stable n (parent k) (t.parent_job k l e a) (t.parent_seen k l e a)
            (omega (arith, t.parent_rank k l e a, t.rank_small k l e, count_most seen P.jobs)),
      )

  -- each job seen is reached from one outside A
  pub forest_reached : (n k : ℕ) → rank k < n → k < P.jobs → seen k ≡ true → (i : ℕ) × (i < P.jobs) × (A i ≡ false) × Reach (Leads P A f) i k
  forest_reached zero k r l e = absurd (omega arith)
  forest_reached (suc n) k r l e = elim (cases (A k)) [
    | inr a ↦ (k, l, a, here)
    | inl a ↦
        let (i, li, ai, w) = forest_reached n (parent k) (omega (arith, t.parent_rank k l e a)) (t.parent_job k l e a) (t.parent_seen k l e a) in
        (i, li, ai, reach_trans (Leads P A f) i (parent k) k w (step (l, a, t.parent_holds k l e a) here))
  ]
