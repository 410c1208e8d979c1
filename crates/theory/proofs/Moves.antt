-- Moves of one job, and the moves along a walk.
use Prim.Native.Nat.{ℕ, zero, suc, ◌+◌, ◌<◌, ◌≤◌}
use mathlib.Core.Path.{◌≡◌, refl, sym, ap, ap₂, ◌∙◌, subst}
use mathlib.Core.Bool.{Bool, true, false, ◌&&◌}
use mathlib.Core.Logic.{◌⊎◌, inl, inr, ◌≢◌}
use native.Mathlib.Decide.{ℕ_discrete}
use native.Mathlib.Omega.{arith}
use lib.Dec.{eqb}
use borrow.Author.Tests.{eqb-true, eq-eqb, ne_eqb}
use Rattle.theory.specs.Counts.{bit, count}
use Rattle.theory.specs.Reach.{Reach, here, step}
use Rattle.theory.specs.Assignments.{Problem, Valid, load, Spare, Leads, Open, put, with, Assignment}
use Rattle.theory.proofs.Sums.{or_right, or_cases, clash, sum_put}
use Rattle.theory.proofs.Walks.{Steps, reach_steps, avoid}

pub put_same : (f : ℕ → ℕ) (c q : ℕ) → put f c q c ≡ q
put_same f c q = simp (eq-eqb c c refl)

pub put_other : (f : ℕ → ℕ) (c q k : ℕ) → k ≢ c → put f c q k ≡ f k
put_other f c q k ne = simp (ne_eqb k c ne)

-- what holds of c at q, and of each other number at its own value, holds after the write
pub put_keeps : (P : ℕ → ℕ → Type 0) (f : ℕ → ℕ) (c q k : ℕ) → P c q → (k ≢ c → P k (f k)) → P k (put f c q k)
put_keeps P f c q k h g = elim (ℕ_discrete k c) [
  | yes e ↦ subst (λ (x : ℕ). P x (put f c q x)) (sym e) (subst (P c) (sym (put_same f c q)) h)
  | no ne ↦ subst (P k) (sym (put_other f c q k ne)) (g ne)
]

-- how a move changes the loads
pub load_put : (P : Problem) (A : ℕ → Bool) (f : ℕ → ℕ) (c q p : ℕ) → c < P.jobs → A c ≡ true → load P A (put f c q) p + bit (eqb (f c) p) ≡ load P A f p + bit (eqb q p)
load_put P A f c q p l a =
    omega (
      arith,
      sum_put (λ k. bit (A k && eqb (put f c q k) p)) (λ k. bit (A k && eqb (f k) p)) P.jobs c l (λ k m ne. ap (λ (x : ℕ). bit (A k && eqb x p)) (put_other f c q k ne)),
      ap (λ (b : Bool). bit (b && eqb (f c) p)) a,
      ap₂ (λ (b : Bool) (x : ℕ). bit (b && eqb x p)) a (put_same f c q),
    )

pub with_same : (A : ℕ → Bool) (c : ℕ) → with A c c ≡ true
with_same A c = simp (eq-eqb c c refl)

pub with_other : (A : ℕ → Bool) (c k : ℕ) → k ≢ c → with A c k ≡ A k
with_other A c k ne = simp (ne_eqb k c ne)

pub with_has : (A : ℕ → Bool) (c k : ℕ) → A k ≡ true → with A c k ≡ true
with_has A c k e = or_right (eqb k c) e

pub with_is : (A : ℕ → Bool) (c k : ℕ) → with A c k ≡ true → (k ≡ c) ⊎ (A k ≡ true)
with_is A c k e = elim (or_cases (eqb k c) (A k) e) [ inl d ↦ inl (eqb-true k c d) | inr d ↦ inr d ]

pub apart_by : (A : ℕ → Bool) (a b : ℕ) → A a ≡ true → A b ≡ false → a ≢ b
apart_by A a b e d q = clash e (ap A q ∙ d)

-- a new element counts one more
pub count_with : (A : ℕ → Bool) (c n : ℕ) → c < n → A c ≡ false → count (with A c) n ≡ suc (count A n)
count_with A c n l a =
    omega (
      arith,
      sum_put (λ k. bit (with A c k)) (λ k. bit (A k)) n c l (λ k m ne. ap bit (with_other A c k ne)),
      ap bit a,
      ap bit (with_same A c),
    )

-- how a new job changes them
pub load_add : (P : Problem) (A : ℕ → Bool) (f : ℕ → ℕ) (c q p : ℕ) → c < P.jobs → A c ≡ false → load P (with A c) (put f c q) p ≡ load P A f p + bit (eqb q p)
load_add P A f c q p l a =
    omega (
      arith,
      sum_put (λ k. bit (with A c k && eqb (put f c q k) p)) (λ k. bit (A k && eqb (f k) p)) P.jobs c l (λ k m ne. ap₂ (λ (b : Bool) (x : ℕ). bit (b && eqb x p)) (with_other A c k ne) (put_other f c q k ne)),
      ap (λ (b : Bool). bit (b && eqb (f c) p)) a,
      ap₂ (λ (b : Bool) (x : ℕ). bit (b && eqb x p)) (with_same A c) (put_same f c q),
    )

pub bit_eq : (a b : ℕ) → ((a ≡ b) × (bit (eqb a b) ≡ 1)) ⊎ ((a ≢ b) × (bit (eqb a b) ≡ 0))
bit_eq a b = elim (ℕ_discrete a b) [ yes e ↦ inl (e, ap bit (eq-eqb a b e)) | no ne ↦ inr (ne, ap bit (ne_eqb a b ne)) ]

-- the load at p grows by a job at q: it still fits where q was spare
grown : (P : Problem) (A : ℕ → Bool) (f : ℕ → ℕ) (q p : ℕ) → Valid P A f → p < P.width → Spare P A f q → load P A f p + bit (eqb q p) ≤ P.cap p
grown P A f q p v b s =
    elim (bit_eq q p) [
      | inl (e, o) ↦ subst (λ (x : ℕ). load P A f x + bit (eqb q x) ≤ P.cap x) e (omega (arith, ap bit (eq-eqb q q refl)))
      | inr (ne, o) ↦ omega (arith, v.fits p b)
    ]

-- a job of A moves to a spare place of its list
pub move_valid : (P : Problem) (A : ℕ → Bool) (f : ℕ → ℕ) (c q : ℕ) → Valid P A f → c < P.jobs → A c ≡ true → q < P.width → P.holds c q ≡ true → Spare P A f q → Valid P A (put f c q)
move_valid P A f c q v l a b h s = record {
  held = λ i m t. put_keeps (λ k x. P.holds k x ≡ true) f c q i h (λ ne. v.held i m t);
  within = λ i m t. put_keeps (λ k x. x < P.width) f c q i b (λ ne. v.within i m t);
  fits = λ p d. omega (arith, load_put P A f c q p l a, grown P A f q p v d s);
}

-- and leaves a spare place
pub move_frees : (P : Problem) (A : ℕ → Bool) (f : ℕ → ℕ) (c q : ℕ) → Valid P A f → c < P.jobs → A c ≡ true → Spare P A f q → Spare P A (put f c q) (f c)
move_frees P A f c q v l a s = omega (arith, load_put P A f c q (f c) l a, grown P A f q (f c) v (v.within c l a) s, ap bit (eq-eqb (f c) (f c) refl))

with_cases : (A : ℕ → Bool) (c k : ℕ) → k ≢ c → with A c k ≡ true → A k ≡ true
with_cases A c k ne e = sym (with_other A c k ne) ∙ e

-- a job outside A gets a spare place of its list
pub add_valid : (P : Problem) (A : ℕ → Bool) (f : ℕ → ℕ) (c q : ℕ) → Valid P A f → c < P.jobs → A c ≡ false → q < P.width → P.holds c q ≡ true → Spare P A f q → Valid P (with A c) (put f c q)
add_valid P A f c q v l a b h s = record {
  held = λ i m t. put_keeps (λ k x. P.holds k x ≡ true) f c q i h (λ ne. v.held i m (with_cases A c i ne t));
  within = λ i m t. put_keeps (λ k x. x < P.width) f c q i b (λ ne. v.within i m (with_cases A c i ne t));
  fits = λ p d. omega (arith, load_add P A f c q p l a, grown P A f q p v d s);
}

-- an assignment of the same jobs with one spare at p
abbrev pub Relieved : Problem → (ℕ → Bool) → ℕ → Type 0
Relieved P A p = (g : ℕ → ℕ) × Valid P A g × Spare P A g p

relieve_own : (P : Problem) (A : ℕ → Bool) (f : ℕ → ℕ) (c : ℕ) → Valid P A f → c < P.jobs → A c ≡ true → Open P A f c → Relieved P A (f c)
relieve_own P A f c v l a o =
    (put f c o.place, move_valid P A f c o.place v l a o.below o.listed o.spare, move_frees P A f c o.place v l a o.spare)

-- A job of A from which a walk comes to a spare place can leave its own place, so that this has one spare: the walk's last job
-- moves, and then a shorter walk that goes round it does.
pub relieve : (P : Problem) (A : ℕ → Bool) (n : ℕ) (f : ℕ → ℕ) (c e : ℕ) → Valid P A f → c < P.jobs → A c ≡ true → Steps (Leads P A f) n c e → Open P A f e → Relieved P A (f c)
relieve P A zero f c e v l a w o = relieve_own P A f c v l a (subst (Open P A f) (sym w) o)
relieve P A (suc n) f c e v l a w o =
    elim (ℕ_discrete c e) [
      | yes d ↦ relieve_own P A f c v l a (subst (Open P A f) (sym d) o)
      | no ne ↦ further (relieve P A n) ne (avoid (Leads P A f) (Leads P A f') e kept n c e ne w)
    ]
  where
    f' : ℕ → ℕ
    f' = put f e o.place

    kept : (j k : ℕ) → j ≢ e → k ≢ e → Leads P A f j k → Leads P A f' j k
    kept j k nj nk (m, t, h) = (m, t, subst (λ (x : ℕ). P.holds j x ≡ true) (sym (put_other f e o.place k nk)) h)

    further : ((f : ℕ → ℕ) (c e : ℕ) → Valid P A f → c < P.jobs → A c ≡ true → Steps (Leads P A f) n c e → Open P A f e → Relieved P A (f c))
        → c ≢ e → ((e ≢ e) × Steps (Leads P A f') (suc n) c e) ⊎ ((k : ℕ) × (k ≢ e) × Leads P A f k e × Steps (Leads P A f') n c k) → Relieved P A (f c)
    further again ne (inl x) = absurd (x.0 refl)
    further again ne (inr (k, nk, (m, t, h), s)) =
        subst (Relieved P A) (put_other f e o.place c ne)
        (again f' c k (move_valid P A f e o.place v m t o.below o.listed o.spare) l a s
        (record { place = f e; below = v.within e m t; listed = h; spare = move_frees P A f e o.place v m t o.spare }))

-- A job without a place from which a walk comes to a spare place can be assigned too.
pub augment : (P : Problem) (A : ℕ → Bool) (f : ℕ → ℕ) (i e : ℕ) → Valid P A f → i < P.jobs → A i ≡ false → Reach (Leads P A f) i e → Open P A f e → Assignment P (with A i)
augment P A f i e v l a here o = record { at = put f i o.place; valid = add_valid P A f i o.place v l a o.below o.listed o.spare }
augment P A f i e v l a (step {j = k} (m, t, h) s) o =
    let (n, w) = reach_steps (Leads P A f) k e s in
    let (g, u, r) = relieve P A (suc n) f k e v m t w o in
    record { at = put g i (f k); valid = add_valid P A g i (f k) u l a (v.within k m t) h r }
