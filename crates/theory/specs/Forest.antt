-- Search forests from all jobs without a place.
use Rattle.std.specs.Prelude.{ℕ, zero, suc, ◌<◌, ◌≡◌, Bool, true, cond}
use Rattle.theory.specs.Counts.{count}
use Rattle.theory.specs.Assignments.{Problem}

-- Each job seen that has a place has a parent, seen before it, that could take its place.
pub record Forest (P : Problem) (A : ℕ → Bool) (f : ℕ → ℕ) (seen : ℕ → Bool) (parent rank : ℕ → ℕ) : Type 0 where
  pub parent_job : (k : ℕ) → k < P.jobs → seen k ≡ true → A k ≡ true → parent k < P.jobs
  pub parent_seen : (k : ℕ) → k < P.jobs → seen k ≡ true → A k ≡ true → seen (parent k) ≡ true
  pub parent_rank : (k : ℕ) → k < P.jobs → seen k ≡ true → A k ≡ true → rank (parent k) < rank k
  pub parent_holds : (k : ℕ) → k < P.jobs → seen k ≡ true → A k ≡ true → P.holds (parent k) (f k) ≡ true
  pub rank_small : (k : ℕ) → k < P.jobs → seen k ≡ true → rank k < count seen P.jobs

-- how many parents lie between k and a job outside A, at most n of them counted
unfoldable pub climb : (ℕ → Bool) → (ℕ → ℕ) → ℕ → ℕ → ℕ
climb A parent zero k = 0
climb A parent (suc n) k = cond (A k) (suc (climb A parent n (parent k))) 0
