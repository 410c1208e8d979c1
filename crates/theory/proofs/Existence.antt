-- Every problem has an assignment that cannot be extended, so it has a group, and only one.
use Prim.Native.Nat.{ℕ, zero, suc, ◌<◌, ◌≤◌}
use mathlib.Core.Path.{◌≡◌, refl, sym, ap, subst}
use mathlib.Core.Bool.{Bool, true, false, ◌&&◌, not}
use mathlib.Core.Logic.{inl, inr}
use native.Mathlib.Omega.{arith}
use lib.Dec.{eqb, ltb}
use borrow.Author.Tests.{not-true, ltb-true, lt-ltb}
use native.Mathlib.Decide.{dec_lt}
use Rattle.theory.specs.Counts.{bit, some}
use Rattle.theory.specs.Reach.{Along}
use Rattle.theory.specs.Assignments.{Problem, Valid, load, missing, Leads, Open, with, Assignment, Stuck, Reached, Deficient, Group}
use Rattle.theory.proofs.Sums.{cases, clash, and_left, and_right, both, sum_zero, count_lt, some_has, some_at}
use Rattle.theory.proofs.Walks.{reach_map}
use Rattle.theory.proofs.Moves.{augment, with_same, with_has}
use Rattle.theory.proofs.Groups.{stuck_group}
use Rattle.theory.proofs.Closures.{Closure, closure}

-- ---- the search for a job with a spare place

abbrev open_at : Problem → (ℕ → Bool) → (ℕ → ℕ) → ℕ → ℕ → Bool
open_at P A f j q = P.holds j q && ltb (load P A f q) (P.cap q)

abbrev pub opens : Problem → (ℕ → Bool) → (ℕ → ℕ) → ℕ → Bool
opens P A f j = some (open_at P A f j) P.width

pub opens_open : (P : Problem) (A : ℕ → Bool) (f : ℕ → ℕ) (j : ℕ) → opens P A f j ≡ true → Open P A f j
opens_open P A f j e =
    let (q, l, t) = some_at (open_at P A f j) P.width e in
    record { place = q; below = l; listed = and_left (P.holds j q) _ t; spare = ltb-true _ _ (and_right (P.holds j q) _ t) }

pub shut_tight : (P : Problem) (A : ℕ → Bool) (f : ℕ → ℕ) (j : ℕ) → opens P A f j ≡ false → (q : ℕ) → q < P.width → P.holds j q ≡ true → P.cap q ≤ load P A f q
shut_tight P A f j e q l h = elim (dec_lt (load P A f q) (P.cap q)) [
  | yes y ↦ absurd (clash (some_has (open_at P A f j) P.width q l (both h (lt-ltb _ _ y))) e)
  | no n ↦ omega arith
]

-- ---- an assignment that cannot be extended

pub record Best (P : Problem) : Type 0 where
  pub who : ℕ → Bool
  pub at : ℕ → ℕ
  pub valid : Valid P who at
  pub behind : ℕ → Bool
  pub stuck : Stuck P who at behind
  pub reached : Reached P who at behind

abbrev takes : Problem → (ℕ → Bool) → (ℕ → ℕ) → ℕ → ℕ → Bool
takes P A f j k = A k && P.holds j (f k)

along_leads : (P : Problem) (A : ℕ → Bool) (f : ℕ → ℕ) (j k : ℕ) → Along P.jobs (takes P A f) j k → Leads P A f j k
along_leads P A f j k (lj, lk, e) = (lk, and_left (A k) _ e, and_right (A k) _ e)

behind : (P : Problem) (A : ℕ → Bool) (f : ℕ → ℕ) → Closure P.jobs (takes P A f) (λ k. not (A k))
behind P A f = closure P.jobs (takes P A f) (λ k. not (A k))

behind_reached : (P : Problem) (A : ℕ → Bool) (f : ℕ → ℕ) (c : Closure P.jobs (takes P A f) (λ k. not (A k))) → Reached P A f c.has
behind_reached P A f c k l e =
    let (i, li, a, w) = c.reached k l e in
    (i, li, not-true (A i) a, reach_map (Along P.jobs (takes P A f)) (Leads P A f) (along_leads P A f) i k w)

behind_stuck : (P : Problem) (A : ℕ → Bool) (f : ℕ → ℕ) (c : Closure P.jobs (takes P A f) (λ k. not (A k))) → some (λ j. c.has j && opens P A f j) P.jobs ≡ false → Stuck P A f c.has
behind_stuck P A f c e = record {
  starts = λ k l a. c.starts k l (ap not a);
  closed = λ j k l h r. c.closed j k l r.0 h (both r.1 r.2);
  tight = λ j q l h b r. shut_tight P A f j (shut j l h) q b r;
}
  where
    shut : (j : ℕ) → j < P.jobs → c.has j ≡ true → opens P A f j ≡ false
    shut j l h = elim (cases (opens P A f j)) [ inl d ↦ absurd (clash (some_has _ P.jobs j l (both h d)) e) | inr d ↦ d ]

fewer : (P : Problem) (A : ℕ → Bool) (i : ℕ) → i < P.jobs → A i ≡ false → missing P (with A i) < missing P A
fewer P A i l a = count_lt (λ k. not (with A i k)) (λ k. not (A k)) P.jobs i (λ k m e. kept k e) l (ap not (with_same A i)) (ap not a)
  where
    kept : (k : ℕ) → not (with A i k) ≡ true → not (A k) ≡ true
    kept k e = elim (cases (A k)) [ inl d ↦ absurd (clash (with_has A i k d) (not-true _ e)) | inr d ↦ ap not d ]

-- one job more, where a walk comes to a spare place
better : (P : Problem) (A : ℕ → Bool) (f : ℕ → ℕ) → Valid P A f → (c : Closure P.jobs (takes P A f) (λ k. not (A k)))
    → some (λ j. c.has j && opens P A f j) P.jobs ≡ true → (A' : ℕ → Bool) × Assignment P A' × (missing P A' < missing P A)
better P A f v c e =
    let (j, lj, t) = some_at (λ j. c.has j && opens P A f j) P.jobs e in
    let (i, li, a, w) = behind_reached P A f c j lj (and_left (c.has j) _ t) in
    (with A i, augment P A f i j v li a w (opens_open P A f j (and_right (c.has j) _ t)), fewer P A i li a)

best_of : (P : Problem) (A : ℕ → Bool) (f : ℕ → ℕ) → Valid P A f → (c : Closure P.jobs (takes P A f) (λ k. not (A k)))
    → some (λ j. c.has j && opens P A f j) P.jobs ≡ false → Best P
best_of P A f v c e = record { who = A; at = f; valid = v; behind = c.has; stuck = behind_stuck P A f c e; reached = behind_reached P A f c }

improve : (P : Problem) (n : ℕ) (A : ℕ → Bool) (f : ℕ → ℕ) → Valid P A f → missing P A ≤ n → Best P
improve P zero A f v h = elim (cases (some (λ j. (behind P A f).has j && opens P A f j) P.jobs)) [
  | inr e ↦ best_of P A f v (behind P A f) e
  | inl e ↦ let (A', g, l) = better P A f v (behind P A f) e in absurd (omega (arith, l))
]
improve P (suc n) A f v h = elim (cases (some (λ j. (behind P A f).has j && opens P A f j) P.jobs)) [
  | inr e ↦ best_of P A f v (behind P A f) e
  | inl e ↦ let (A', g, l) = better P A f v (behind P A f) e in improve P n A' g.at g.valid (omega (arith, l))
]

pub nobody : (P : Problem) → Valid P (λ k. false) (λ k. 0)
nobody P = record {
  held = λ i l e. absurd (clash e refl);
  within = λ i l e. absurd (clash e refl);
  fits = λ p l. omega (arith, sum_zero (λ k. bit (false && eqb 0 p)) P.jobs (λ k m. refl));
}

pub best : (P : Problem) → Best P
best P = improve P (missing P (λ k. false)) (λ k. false) (λ k. 0) (nobody P) (omega arith)

-- ---- the group

pub group_exists : (P : Problem) → (R : ℕ → Bool) × (d : ℕ) × Group P R d
group_exists P = let b = best P in (b.behind, missing P b.who, stuck_group P b.who b.at b.behind b.valid b.stuck b.reached)

same_bool : (a b : Bool) → (a ≡ true → b ≡ true) → (b ≡ true → a ≡ true) → a ≡ b
same_bool true b f g = sym (f refl)
same_bool false true f g = g refl
same_bool false false f g = refl

pub group_unique : (P : Problem) (R S : ℕ → Bool) (d e : ℕ) → Group P R d → Group P S e → (d ≡ e) × ((k : ℕ) → k < P.jobs → R k ≡ S k)
group_unique P R S d e g h =
    (same, λ k l. same_bool (R k) (S k) (g.least S (subst (Deficient P S) (sym same) h.deficient) k l) (h.least R (subst (Deficient P R) same g.deficient) k l))
  where
    same : d ≡ e
    same = omega (arith, g.deficient, h.deficient, g.greatest S, h.greatest R)
