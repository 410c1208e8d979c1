-- What is proved of assignments with capacities.
use Rattle.std.specs.Prelude.{ℕ, suc, ◌+◌, ◌<◌, ◌≤◌, ◌≡◌, Bool, true, false, ◌&&◌, ◌⊎◌, ◌↔◌}
use Rattle.theory.specs.Counts.{count}
use Rattle.theory.specs.Reach.{Reach}
use Rattle.theory.specs.Assignments.{Problem, Valid, Full, load, Spare, all, near, room, missing, Leads, Open, put, with, Assignment, Support, Yields, Moving, Stuck, Reached, Group, Searched, keeps}
use Rattle.theory.specs.Forest.{Forest}
use Rattle.theory.specs.SingleRows.{single, Row}
use Rattle.theory.specs.RowSupports.{RowSupport}

-- The jobs of a set that are assigned are at most what the places near the set take, so its deficiency is at most the number of jobs
-- without a place.
abbrev pub Bounded : Type 0
Bounded = (P : Problem) (A S : ℕ → Bool) (f : ℕ → ℕ) → Valid P A f
    → (count (λ k. S k && A k) P.jobs ≤ room P (near P S)) × (count S P.jobs ≤ room P (near P S) + missing P A)

-- No full assignment puts i at p, where p is full, and a closed set without i holds the jobs at p and comes to no spare place.
abbrev pub Unsupported : Type 0
Unsupported = (P : Problem) (f : ℕ → ℕ) (S : ℕ → Bool) (i p : ℕ) → Full P f → i < P.jobs
    → P.cap p ≤ load P all f p
    → ((k : ℕ) → k < P.jobs → f k ≡ p → S k ≡ true)
    → ((j k : ℕ) → j < P.jobs → S j ≡ true → k < P.jobs → P.holds j (f k) ≡ true → S k ≡ true)
    → ((j q : ℕ) → j < P.jobs → S j ≡ true → q < P.width → P.holds j q ≡ true → P.cap q ≤ load P all f q)
    → S i ≡ false
    → (g : ℕ → ℕ) → Full P g → g i ≡ p → ⊥

-- A job without a place from which a walk comes to a spare place can be assigned too.
abbrev pub Augments : Type 0
Augments = (P : Problem) (A : ℕ → Bool) (f : ℕ → ℕ) (i e : ℕ) → Valid P A f → i < P.jobs → A i ≡ false → Reach (Leads P A f) i e → Open P A f e → Assignment P (with A i)

-- The moves along the parents of a search forest start, go on and end.
abbrev pub MovesStart : Type 0
MovesStart = (P : Problem) (A : ℕ → Bool) (f : ℕ → ℕ) (seen : ℕ → Bool) (rank : ℕ → ℕ) (e : ℕ)
    → Valid P A f → e < P.jobs → seen e ≡ true → (o : Open P A f e) → Moving P A f seen rank f e o.place

abbrev pub MovesGoOn : Type 0
MovesGoOn = (P : Problem) (A : ℕ → Bool) (f : ℕ → ℕ) (seen : ℕ → Bool) (parent rank g : ℕ → ℕ) (c q : ℕ)
    → Forest P A f seen parent rank → Moving P A f seen rank g c q → A c ≡ true → Moving P A f seen rank (put g c q) (parent c) (g c)

abbrev pub MovesEnd : Type 0
MovesEnd = (P : Problem) (A : ℕ → Bool) (f : ℕ → ℕ) (seen : ℕ → Bool) (rank g : ℕ → ℕ) (c q : ℕ)
    → A c ≡ false → Moving P A f seen rank g c q → Valid P (with A c) (put g c q)

-- A search forest grows by a job that was not seen, whose place a job that was seen could take.
abbrev pub ForestGrows : Type 0
ForestGrows = (P : Problem) (A : ℕ → Bool) (f : ℕ → ℕ) (seen : ℕ → Bool) (parent rank : ℕ → ℕ) (c k : ℕ)
    → Forest P A f seen parent rank → c < P.jobs → seen c ≡ true → seen k ≡ false → Leads P A f c k
    → Forest P A f (with seen k) (put parent k c) (put rank k (suc (rank c)))

-- A full assignment gives one that puts i at p, if i is there, p is spare, or a job at p yields.
abbrev pub Supported : Type 0
Supported = (P : Problem) (f : ℕ → ℕ) (i p : ℕ) → Full P f → i < P.jobs → p < P.width → P.holds i p ≡ true
    → (f i ≡ p) ⊎ (Spare P all f p ⊎ Yields P f i p) → Support P i p

-- What the jobs without a place reach is the group, if it comes to no spare place.
abbrev pub Grouped : Type 0
Grouped = (P : Problem) (A : ℕ → Bool) (f : ℕ → ℕ) (R : ℕ → Bool) → Valid P A f → Stuck P A f R → Reached P A f R → Group P R (missing P A)

-- And if there is such a job, there is no full assignment.
abbrev pub NoneFull : Type 0
NoneFull = (P : Problem) (A : ℕ → Bool) (f : ℕ → ℕ) (R : ℕ → Bool) (i : ℕ) → Valid P A f → Stuck P A f R → i < P.jobs → A i ≡ false → (g : ℕ → ℕ) → Full P g → ⊥

-- The test that narrowing makes passes exactly if a full assignment puts i at p.
abbrev pub Narrows : Type 0
Narrows = (P : Problem) (f : ℕ → ℕ) (loose : ℕ → Bool) (comp : ℕ → ℕ) → Full P f → Searched P f loose comp
    → (i p : ℕ) → i < P.jobs → p < P.width → P.holds i p ≡ true → (keeps P f loose comp i p ≡ true) ↔ Support P i p

-- Where each place takes one job, a full assignment is a row with no place twice.
abbrev pub Rows : Type 0
Rows = (m w : ℕ) (holds : ℕ → ℕ → Bool) → ((i p : ℕ) → i < m → holds i p ≡ true → p < w) → (f : ℕ → ℕ) → Full (single m w holds) f ↔ Row m holds f

-- Every problem has a group, and only one.
abbrev pub OneGroup : Type 0
OneGroup = (P : Problem) → ((R : ℕ → Bool) × (d : ℕ) × Group P R d)
    × ((R S : ℕ → Bool) (d e : ℕ) → Group P R d → Group P S e → (d ≡ e) × ((k : ℕ) → k < P.jobs → R k ≡ S k))

-- An admitted row with p at i, drawn from the lists, is a full assignment that puts i at p, and the other way round.
abbrev pub RowSupports : Type 0
RowSupports = (P : Problem) → ((i p : ℕ) → i < P.jobs → P.holds i p ≡ true → p < P.width) → (i p : ℕ) → i < P.jobs → RowSupport P i p ↔ Support P i p
