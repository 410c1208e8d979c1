-- Assignments of jobs to places, where each place takes as many jobs as its capacity says.
use Rattle.std.specs.Prelude.{ℕ, ◌+◌, ◌<◌, ◌≤◌, ◌≡◌, Bool, true, false, ◌&&◌, ◌||◌, not, cond, ◌⊎◌, eqb, ltb}
use Rattle.theory.specs.Counts.{count, sum, gate, some}
use Rattle.theory.specs.Reach.{Reach}

-- jobs below `jobs`, places below `width`, which places a job's list holds, how many jobs a place can take
pub record Problem : Type 0 where
  pub jobs : ℕ
  pub width : ℕ
  pub holds : ℕ → ℕ → Bool
  pub cap : ℕ → ℕ

-- how many jobs of the set A the assignment f puts at p
abbrev pub load : Problem → (ℕ → Bool) → (ℕ → ℕ) → ℕ → ℕ
load P A f p = count (λ k. A k && eqb (f k) p) P.jobs

-- f assigns each job of A a place of its list, and no place more jobs than it takes
pub record Valid (P : Problem) (A : ℕ → Bool) (f : ℕ → ℕ) : Type 0 where
  pub held : (i : ℕ) → i < P.jobs → A i ≡ true → P.holds i (f i) ≡ true
  pub within : (i : ℕ) → i < P.jobs → A i ≡ true → f i < P.width
  pub fits : (p : ℕ) → p < P.width → load P A f p ≤ P.cap p

abbrev pub all : ℕ → Bool
all k = true

-- f assigns every job
abbrev pub Full : Problem → (ℕ → ℕ) → Type 0
Full P f = Valid P all f

-- a place that can take one more job
abbrev pub Spare : Problem → (ℕ → Bool) → (ℕ → ℕ) → ℕ → Type 0
Spare P A f p = load P A f p < P.cap p

-- a place in the list of some job of S
abbrev pub near : Problem → (ℕ → Bool) → ℕ → Bool
near P S p = some (λ i. S i && P.holds i p) P.jobs

-- what the places of the set N take together
abbrev pub room : Problem → (ℕ → Bool) → ℕ
room P N = sum (λ p. gate (N p) (P.cap p)) P.width

-- j could take the place of k, which is assigned
abbrev pub Leads : Problem → (ℕ → Bool) → (ℕ → ℕ) → ℕ → ℕ → Type 0
Leads P A f j k = (k < P.jobs) × (A k ≡ true) × (P.holds j (f k) ≡ true)

-- a job that has a spare place in its list
pub record Open (P : Problem) (A : ℕ → Bool) (f : ℕ → ℕ) (e : ℕ) : Type 0 where
  pub place : ℕ
  pub below : place < P.width
  pub listed : P.holds e place ≡ true
  pub spare : Spare P A f place

-- f with q at c
abbrev pub put : (ℕ → ℕ) → ℕ → ℕ → ℕ → ℕ
put f c q k = cond (eqb k c) q (f k)

-- A with c
abbrev pub with : (ℕ → Bool) → ℕ → ℕ → Bool
with A c k = eqb k c || A k

-- an assignment of the jobs of A
pub record Assignment (P : Problem) (A : ℕ → Bool) : Type 0 where
  pub at : ℕ → ℕ
  pub valid : Valid P A at

-- a full assignment that puts i at p
pub record Support (P : Problem) (i p : ℕ) : Type 0 where
  pub at : ℕ → ℕ
  pub full : Full P at
  pub takes : at i ≡ p

-- The moves along the parents of a search forest, from the job found to one without a place, have come to the job c: g has the jobs
-- moved that were seen after c, and q is a spare place for c.
pub record Moving (P : Problem) (A : ℕ → Bool) (f : ℕ → ℕ) (seen : ℕ → Bool) (rank g : ℕ → ℕ) (c q : ℕ) : Type 0 where
  pub valid : Valid P A g
  pub job : c < P.jobs
  pub found : seen c ≡ true
  pub below : q < P.width
  pub listed : P.holds c q ≡ true
  pub spare : Spare P A g q
  pub same : (k : ℕ) → rank k ≤ rank c → g k ≡ f k

-- A job at p from which a walk comes to i, or to a job with a spare place.
pub record Yields (P : Problem) (f : ℕ → ℕ) (i p : ℕ) : Type 0 where
  pub holder : ℕ
  pub job : holder < P.jobs
  pub there : f holder ≡ p
  pub last : ℕ
  pub walk : Reach (Leads P all f) holder last
  pub ends : (last ≡ i) ⊎ Open P all f last

-- how many jobs have no place
abbrev pub missing : Problem → (ℕ → Bool) → ℕ
missing P A = count (λ k. not (A k)) P.jobs

-- a set that holds the jobs without a place and what they reach, and comes to no spare place
pub record Stuck (P : Problem) (A : ℕ → Bool) (f : ℕ → ℕ) (R : ℕ → Bool) : Type 0 where
  pub starts : (k : ℕ) → k < P.jobs → A k ≡ false → R k ≡ true
  pub closed : (j k : ℕ) → j < P.jobs → R j ≡ true → Leads P A f j k → R k ≡ true
  pub tight : (j q : ℕ) → j < P.jobs → R j ≡ true → q < P.width → P.holds j q ≡ true → P.cap q ≤ load P A f q

-- each job of R is reached from one without a place
abbrev pub Reached : Problem → (ℕ → Bool) → (ℕ → ℕ) → (ℕ → Bool) → Type 0
Reached P A f R = (k : ℕ) → k < P.jobs → R k ≡ true → (i : ℕ) × (i < P.jobs) × (A i ≡ false) × Reach (Leads P A f) i k

-- the set S has the deficiency d
abbrev pub Deficient : Problem → (ℕ → Bool) → ℕ → Type 0
Deficient P S d = count S P.jobs ≡ room P (near P S) + d

-- R has the greatest deficiency, d, and lies inside every other set that has it
pub record Group (P : Problem) (R : ℕ → Bool) (d : ℕ) : Type 0 where
  pub deficient : Deficient P R d
  pub greatest : (S : ℕ → Bool) → count S P.jobs ≤ room P (near P S) + d
  pub least : (S : ℕ → Bool) → Deficient P S d → (k : ℕ) → k < P.jobs → R k ≡ true → S k ≡ true

-- What a search of a full assignment found: the jobs from which a walk comes to a spare place, and components by number, where no
-- step leads to a greater number.
pub record Searched (P : Problem) (f : ℕ → ℕ) (loose : ℕ → Bool) (comp : ℕ → ℕ) : Type 0 where
  pub frees : (j : ℕ) → j < P.jobs → loose j ≡ true → (e : ℕ) × Reach (Leads P all f) j e × Open P all f e
  pub open_loose : (j q : ℕ) → j < P.jobs → q < P.width → P.holds j q ≡ true → Spare P all f q → loose j ≡ true
  pub next_loose : (j k : ℕ) → j < P.jobs → k < P.jobs → P.holds j (f k) ≡ true → loose k ≡ true → loose j ≡ true
  pub falls : (j k : ℕ) → j < P.jobs → k < P.jobs → P.holds j (f k) ≡ true → comp k ≤ comp j
  pub linked : (j k : ℕ) → j < P.jobs → k < P.jobs → comp j ≡ comp k → Reach (Leads P all f) j k

-- the test by which p stays in the list of i
abbrev pub keeps : Problem → (ℕ → ℕ) → (ℕ → Bool) → (ℕ → ℕ) → ℕ → ℕ → Bool
keeps P f loose comp i p =
    eqb (f i) p || (ltb (load P all f p) (P.cap p) || some (λ k. eqb (f k) p && (loose k || eqb (comp k) (comp i))) P.jobs)
