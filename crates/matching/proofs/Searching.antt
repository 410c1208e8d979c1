-- The steps of a search from all jobs without a place.
use Rattle.std.proofs.Common.{◌≡◌, ℕ, suc, ◌+◌, ◌<◌, ◌≤◌, Bool, true, false, not, ◌&&◌, ◌||◌, nat_eq, ◌≢◌, ◌⊎◌, List, [], ◌∷◌, ◌++◌, length, slice_set, sym, refl, ap, ◌∙◌, subst, subst₂, inl, inr, arith, length-append, length-set, get_or-set_other, eq-eqb, ne_eqb, eqb-true}
use Rattle.std.proofs.Math.Bool.{or-false, or_assoc}
use native.Mathlib.Decide.{ℕ_discrete, dec_lt}
use borrow.Author.Tests.{not-true}
use Rattle.theory.specs.Counts.{bit, sum, count}
use Rattle.theory.specs.Assignments.{put, with}
use Rattle.theory.specs.SingleRows.{single}
use Rattle.theory.proofs.Sums.{cases, clash, or_cases, or_left, or_right, sum_eq, sum_zero, count_most}
use Rattle.theory.proofs.Moves.{with_same, with_has, with_is, count_with}
use Rattle.matching.specs.Tables.{at, filled}
use Rattle.matching.specs.Matched.{Matched, Stalled}
use Rattle.matching.specs.Searching.{left, Searching, Rooted}
use Rattle.theory.specs.Lists.{member}
use Rattle.matching.proofs.Tables.{at_set}
use Rattle.theory.specs.Forest.{Forest}
use Rattle.matching.proofs.Tables.{none_filled, some_filled, filled_set}
use Rattle.theory.proofs.Forests.{forest_starts, forest_grows, forest_reached}
use Rattle.matching.proofs.Shifts.{held_tight}

-- ---- queues

member_push : (xs : List ℕ) (k j : ℕ) → member (xs ++ k ∷ []) j ≡ (member xs j || nat_eq j k)
member_push [] k j = or-false (nat_eq j k)
member_push (x ∷ xs) k j = ap (λ (b : Bool). nat_eq j x || b) (member_push xs k j) ∙ sym (or_assoc (nat_eq j x) (member xs j) (nat_eq j k))

pub pushed_here : (xs : List ℕ) (k : ℕ) → member (xs ++ k ∷ []) k ≡ true
pushed_here xs k = member_push xs k k ∙ or_right (member xs k) (eq-eqb k k refl)

pub pushed_has : (xs : List ℕ) (k j : ℕ) → member xs j ≡ true → member (xs ++ k ∷ []) j ≡ true
pushed_has xs k j h = member_push xs k j ∙ or_left (nat_eq j k) h

pub pushed_is : (xs : List ℕ) (k j : ℕ) → member (xs ++ k ∷ []) j ≡ true → (member xs j ≡ true) ⊎ (j ≡ k)
pushed_is xs k j h = elim (or_cases (member xs j) (nat_eq j k) (sym (member_push xs k j) ∙ h)) [ inl a ↦ inl a | inr b ↦ inr (eqb-true j k b) ]

pub pushed_not : (xs : List ℕ) (k j : ℕ) → member (xs ++ k ∷ []) j ≡ false → member xs j ≡ false
pushed_not xs k j h = elim (cases (member xs j)) [ inl a ↦ absurd (clash (pushed_has xs k j a) h) | inr b ↦ b ]

pub seen_few : (xs : List ℕ) (m : ℕ) → count (filled xs) m ≤ m
seen_few xs m = omega (arith, count_most (filled xs) m)

-- ---- the start

at_kept : (xs : List ℕ) (n v k : ℕ) → k < n → at (slice_set xs n v) k ≡ at xs k
at_kept xs n v k l = get_or-set_other xs n k v 0 (λ e. omega (arith, e, l))

filled_kept : (xs : List ℕ) (n v k : ℕ) → k < n → filled (slice_set xs n v) k ≡ filled xs k
filled_kept xs n v k l = ap (λ (x : ℕ). not (nat_eq x 65535)) (at_kept xs n v k l)

count_kept : (xs : List ℕ) (n v : ℕ) → count (filled (slice_set xs n v)) n ≡ count (filled xs) n
count_kept xs n v = sum_eq (λ k. bit (filled (slice_set xs n v) k)) (λ k. bit (filled xs k)) n (λ k l. ap bit (filled_kept xs n v k l))

below_next : (P : ℕ → Type 0) (n k : ℕ) → k < suc n → (k < n → P k) → P n → P k
below_next P n k l f h = elim (ℕ_discrete k n) [ yes e ↦ subst P (sym e) h | no ne ↦ f (omega arith) ]

-- a job without a place waits
pub rooted_waits : (n v : ℕ) (places parents waiting : List ℕ) → Rooted n places parents waiting → n < length parents → v ≢ 65535 → at places n ≡ 65535
    → Rooted (suc n) places (slice_set parents n v) (waiting ++ n ∷ [])
unfolding sum
rooted_waits n v places parents waiting r l ne e =
    let here : filled (slice_set parents n v) n ≡ true = ap (λ (A : ℕ → Bool). A n) (filled_set parents n v l ne) ∙ with_same (filled parents) n in
    record {
      marks = λ k lk. below_next (λ j. filled (slice_set parents n v) j ≡ not (filled places j)) n k lk (λ b. filled_kept parents n v k b ∙ r.marks k b) (here ∙ sym (ap not (none_filled places n e)));
      waits = λ k lk h. below_next (λ j. filled (slice_set parents n v) j ≡ true → member (waiting ++ n ∷ []) j ≡ true) n k lk
          (λ b g. pushed_has waiting n k (r.waits k b (sym (filled_kept parents n v k b) ∙ g))) (λ g. pushed_here waiting n) h;
      only = λ k h. elim (pushed_is waiting n k h) [
        | inl a ↦ let (b, f) = r.only k a in (omega arith, filled_kept parents n v k b ∙ f)
        | inr q ↦ (omega (arith, q), ap (filled (slice_set parents n v)) q ∙ here)
      ];
      room = simp length-append (omega (arith, r.room, count_kept parents n v, ap bit here));
    }

-- a job with a place does not
pub rooted_passes : (n : ℕ) (places parents waiting : List ℕ) → Rooted n places parents waiting → at parents n ≡ 65535 → at places n ≢ 65535 → Rooted (suc n) places parents waiting
unfolding sum
rooted_passes n places parents waiting r e ne =
    let here : filled parents n ≡ false = none_filled parents n e in
    record {
      marks = λ k lk. below_next (λ j. filled parents j ≡ not (filled places j)) n k lk (λ b. r.marks k b) (here ∙ sym (ap not (some_filled places n ne)));
      waits = λ k lk h. below_next (λ j. filled parents j ≡ true → member waiting j ≡ true) n k lk (λ b. r.waits k b) (λ g. absurd (clash g here)) h;
      only = λ k h. let (b, f) = r.only k h in (omega arith, f);
      room = omega (arith, r.room, ap bit here);
    }

pub rooted_searching : (m w : ℕ) (holds : ℕ → ℕ → Bool) (places holders parents waiting : List ℕ) → m ≤ length parents → Rooted m places parents waiting
    → Searching m w holds places holders parents waiting m 0
rooted_searching m w holds places holders parents waiting l r = record {
  parents_fit = l;
  grown = (λ k. 0, forest_starts (single m w holds) (filled places) (at places) (filled parents) (at parents) (λ k lk e. not-true (filled places k) (sym (r.marks k lk) ∙ e)));
  roots = λ i li e. r.marks i li ∙ ap not e;
  queued = r.only;
  room = r.room;
  scanned = λ j p lj s n. absurd (clash (r.waits j lj s) n);
}

-- ---- the search

module _ (m w : ℕ) (holds : ℕ → ℕ → Bool) (places holders parents : List ℕ) where
  -- a job is taken out
  pub searching_pops : (job : ℕ) (rest : List ℕ) → Searching m w holds places holders parents (job ∷ rest) m 0 → Searching m w holds places holders parents rest job 0
  searching_pops job rest s = record {
    parents_fit = s.parents_fit;
    grown = s.grown;
    roots = s.roots;
    queued = λ j h. s.queued j (or_right (nat_eq j job) h);
    room = omega (arith, s.room);
    scanned = λ j p lj f n h low. s.scanned j p lj f (ap (λ (b : Bool). b || member rest j) (ne_eqb j job (λ e. omega (arith, low e))) ∙ n) h (λ e. absurd (omega arith));
  }

  pub popped_job : (job : ℕ) (rest : List ℕ) → Searching m w holds places holders parents (job ∷ rest) m 0 → (job < m) × (filled parents job ≡ true)
  popped_job job rest s = s.queued job (or_left (member rest job) (eq-eqb job job refl))

  module _ (waiting : List ℕ) (job from : ℕ) (s : Searching m w holds places holders parents waiting job from) where
    -- all its places are scanned
    pub scanned_all : ((q : ℕ) → from ≤ q → holds job q ≡ false) → Searching m w holds places holders parents waiting m 0
    scanned_all none = record {
      parents_fit = s.parents_fit;
      grown = s.grown;
      roots = s.roots;
      queued = s.queued;
      room = s.room;
      scanned = λ j p lj f n h low. s.scanned j p lj f n h (λ e. elim (dec_lt p from) [
        | yes b ↦ b
        | no nb ↦ absurd (clash (sym (ap (λ (x : ℕ). holds x p) e) ∙ h) (none p (omega arith)))
      ]);
    }

    -- the next place's holder was seen
    pub scanned_more : (p : ℕ) → ((q : ℕ) → from ≤ q → q < p → holds job q ≡ false) → at holders p ≢ 65535 → filled parents (at holders p) ≡ true
        → Searching m w holds places holders parents waiting job (p + 1)
    scanned_more p none ne f = record {
      parents_fit = s.parents_fit;
      grown = s.grown;
      roots = s.roots;
      queued = s.queued;
      room = s.room;
      scanned = λ j q lj sj n h low. elim (ℕ_discrete q p) [
        | yes e ↦ subst (λ (x : ℕ). (at holders x ≢ 65535) × (filled parents (at holders x) ≡ true)) (sym e) (ne, f)
        | no nq ↦ s.scanned j q lj sj n h (λ e. elim (dec_lt q from) [
          | yes b ↦ b
          | no nb ↦ absurd (clash (sym (ap (λ (x : ℕ). holds x q) e) ∙ h) (none q (omega arith) (omega (arith, low e))))
        ])
      ];
    }

    -- a holder that was not seen waits
    pub searching_visits : (k : ℕ) → job < m → filled parents job ≡ true → job ≢ 65535 → k < m → filled parents k ≡ false → filled places k ≡ true → holds job (at places k) ≡ true
        → Searching m w holds places holders (slice_set parents k job) (waiting ++ k ∷ []) job from
    searching_visits k lj sj nj lk sk pk h =
        let lt : k < length parents = omega (arith, s.parents_fit) in
        let now : filled (slice_set parents k job) ≡ with (filled parents) k = filled_set parents k job lt nj in
        let has : (x : ℕ) → filled parents x ≡ true → filled (slice_set parents k job) x ≡ true = λ x e. ap (λ (A : ℕ → Bool). A x) now ∙ with_has (filled parents) k x e in
        record {
          parents_fit = simp length-set s.parents_fit;
          grown = (
            put s.grown.0 k (suc (s.grown.0 job)),
            subst₂ (λ (A : ℕ → Bool) (f : ℕ → ℕ). Forest (single m w holds) (filled places) (at places) A f (put s.grown.0 k (suc (s.grown.0 job))))
                (sym now) (sym (at_set parents k job lt))
                (forest_grows (single m w holds) (filled places) (at places) (filled parents) (at parents) s.grown.0 job k s.grown.1 lj sj sk (lk, pk, h)),
          );
          roots = λ i li e. has i (s.roots i li e);
          queued = λ j e. elim (pushed_is waiting k j e) [
            | inl a ↦ let (b, f) = s.queued j a in (b, has j f)
            | inr q ↦ (omega (arith, q), ap (λ (A : ℕ → Bool). A j) now ∙ ap (with (filled parents) k) q ∙ with_same (filled parents) k)
          ];
          room = simp length-append (omega (arith, s.room, ap (λ (A : ℕ → Bool). count A m) now, count_with (filled parents) k m lk sk));
          scanned = λ j p l f n g low. elim (with_is (filled parents) k j (sym (ap (λ (A : ℕ → Bool). A j) now) ∙ f)) [
            | inl q ↦ absurd (clash (ap (member (waiting ++ k ∷ [])) q ∙ pushed_here waiting k) n)
            | inr o ↦ let (a, b) = s.scanned j p l o (pushed_not waiting k j n) g low in (a, has (at holders p) b)
          ];
        }

    pub left_same : (k : ℕ) → k < m → job ≢ 65535 → filled parents k ≡ false → left m (slice_set parents k job) (waiting ++ k ∷ []) ≡ left m parents waiting
    left_same k lk nj sk =
        let lt : k < length parents = omega (arith, s.parents_fit) in
        simp length-append (omega (arith, ap (λ (A : ℕ → Bool). count A m) (filled_set parents k job lt nj), count_with (filled parents) k m lk sk, seen_few (slice_set parents k job) m))

    -- while a job was not seen, the queue has room
    pub queue_room : (k : ℕ) → k < m → filled parents k ≡ false → length waiting < m
    queue_room k lk sk = omega (arith, s.room, count_with (filled parents) k m lk sk, count_most (with (filled parents) k) m)

  -- nothing waits
  pub searching_ends : Matched m w holds places holders → Searching m w holds places holders parents [] m 0 → Stalled m w holds places holders parents
  searching_ends t s = record {
    matched = t;
    stuck = record {
      starts = s.roots;
      closed = λ j k lj e (lk, ak, h). subst (λ (x : ℕ). filled parents x ≡ true) (t.taken k lk ak) (s.scanned j (at places k) lj e refl h (λ q. absurd (omega arith))).1;
      tight = λ j q lj e lq h. held_tight m w holds places holders q t lq (s.scanned j q lj e refl h (λ z. absurd (omega arith))).0;
    };
    reached = λ k lk e. forest_reached (single m w holds) (filled places) (at places) (filled parents) (at parents) s.grown.0 s.grown.1 (suc (s.grown.0 k)) k (omega arith) lk e;
  }

-- no job has a place
pub matched_none : (m w : ℕ) (holds : ℕ → ℕ → Bool) (places holders : List ℕ) → m ≤ length places → w ≤ length holders
    → ((k : ℕ) → k < length places → at places k ≡ 65535) → ((k : ℕ) → k < length holders → at holders k ≡ 65535) → Matched m w holds places holders
matched_none m w holds places holders lp lh hp hh = record {
  places_fit = lp;
  holders_fit = lh;
  valid = record {
    held = λ i l e. absurd (clash e (none i l));
    within = λ i l e. absurd (clash e (none i l));
    fits = λ p l. omega (arith, sum_zero (λ k. bit (filled places k && nat_eq (at places k) p)) m (λ k lk. ap (λ (b : Bool). bit (b && nat_eq (at places k) p)) (none k lk)));
  };
  taken = λ i l e. absurd (clash e (none i l));
  back = λ p l ne. absurd (ne (hh p (omega arith)));
}
  where
    none : (i : ℕ) → i < m → filled places i ≡ false
    none i l = none_filled places i (hp i (omega arith))

-- who has a place
pub holder_job : (m w : ℕ) (holds : ℕ → ℕ → Bool) (places holders : List ℕ) (p k : ℕ) → Matched m w holds places holders → p < w → at holders p ≡ k → k ≢ 65535
    → (k < m) × (filled places k ≡ true) × (at places k ≡ p)
holder_job m w holds places holders p k t lp e ne =
    subst (λ (i : ℕ). (i < m) × (filled places i ≡ true) × (at places i ≡ p)) e (t.back p lp (λ z. ne (sym e ∙ z)))

-- a place is scanned whose holder was not seen, and waits now
pub scan_visits : (m w : ℕ) (holds : ℕ → ℕ → Bool) (places holders parents waiting : List ℕ) (job from p k : ℕ) → Matched m w holds places holders
    → Searching m w holds places holders parents waiting job from → job < m → m ≤ 65535 → filled parents job ≡ true
    → p < w → holds job p ≡ true → ((q : ℕ) → from ≤ q → q < p → holds job q ≡ false) → at holders p ≡ k → k ≢ 65535 → filled parents k ≡ false
    → Searching m w holds places holders (slice_set parents k job) (waiting ++ k ∷ []) job (p + 1) × (filled (slice_set parents k job) job ≡ true)
    × (left m (slice_set parents k job) (waiting ++ k ∷ []) ≤ left m parents waiting)
scan_visits m w holds places holders parents waiting job from p k t s lj few sj lp h none e ne f =
    let (lk, pk, back) = holder_job m w holds places holders p k t lp e ne in
    let nj : job ≢ 65535 = λ z. omega arith in
    let now : filled (slice_set parents k job) ≡ with (filled parents) k = filled_set parents k job (omega (arith, s.parents_fit)) nj in (
      scanned_more m w holds places holders (slice_set parents k job) (waiting ++ k ∷ []) job from
          (searching_visits m w holds places holders parents waiting job from s k lj sj nj lk f pk (ap (holds job) back ∙ h)) p none (λ z. ne (sym e ∙ z))
          (ap (λ (A : ℕ → Bool). A (at holders p)) now ∙ ap (with (filled parents) k) e ∙ with_same (filled parents) k),
      ap (λ (A : ℕ → Bool). A job) now ∙ with_has (filled parents) k job sj,
      omega (arith, left_same m w holds places holders parents waiting job from s k lk nj f),
    )
