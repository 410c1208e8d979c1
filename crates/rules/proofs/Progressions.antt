-- The jobs of a progression, by position and by number.
use Rattle.std.proofs.Common.{◌≡◌, ℕ, zero, suc, ◌+◌, ◌-◌, ◌*◌, ◌/◌, ◌%◌, ◌<◌, ◌≤◌, Bool, true, false, ◌&&◌, ◌≢◌, length, refl, sym, ap, ◌∙◌, inl, inr, arith, zero-mul, suc-mul, mul-zero, mul-le-mul_right, mul-div_cancel, div-add-mod', leb-true, ltb-true, lt-ltb, eqb-true, eq-eqb}
use Rattle.std.specs.Prelude.{◌==◌, nat_le, nat_lt, slice_index}
use Rattle.std.proofs.Math.Decide.{dec_lt}
use Rattle.std.proofs.Math.Nat.{mul-mod_left}
use Rattle.theory.specs.Lists.{member}
use Rattle.theory.proofs.Sums.{clash, and_left, and_right, both, or_left, or_right, or_cases}
use Rattle.std.specs.Prelude.{List, Option, Some, None}
use Rattle.std.specs.Iterator.{Yields, YieldsFirst}
use Rattle.std.proofs.lemmas.List.{get_or_default}
use Rattle.std.proofs.lemmas.Iterator.Consumers.{YieldsList-from_first, YieldsList-turn, YieldsList-end}
use Rattle.rules.specs.declared.progression.Jobs.{Jobs}
use Rattle.rules.specs.Jobs.{jobs_left}
use Rattle.rules.specs.declared.progression.Progression.{Progression}
use Rattle.rules.specs.Narrowing.{Scope}
use Rattle.rules.specs.Progressions.{spread, jobs_of, lawful}

-- ---- by position

pub spread_length : (f s m : ℕ) → length (spread f s m) ≡ m
spread_length f s zero = refl
spread_length f s (suc m) = ap suc (spread_length (f + s) s m)

pub spread_at : (f s m i : ℕ) → i < m → slice_index (spread f s m) i ≡ f + i * s
spread_at f s zero i l = absurd (omega arith)
spread_at f s (suc m) zero l = omega (arith, zero-mul s)
spread_at f s (suc m) (suc i) l = spread_at (f + s) s m i (omega arith) ∙ omega (arith, suc-mul i s)

pub job_listed : (d : Progression) (i : ℕ) → i < d.count → d.first + i * d.step ≡ slice_index (jobs_of d) i
job_listed d i l = sym (spread_at d.first d.step d.count i l)

pub job_within : (f s m n i : ℕ) → i < m → f + (m - 1) * s < n → f + i * s < n
job_within f s m n i l h = let k : i * s ≤ (m - 1) * s = mul-le-mul_right s (omega arith) in omega arith

-- the jobs of a lawful progression are a scope
pub lawful_scope : (d : Progression) (n : ℕ) → lawful d n ≡ true → Scope n (jobs_of d)
lawful_scope d n h =
    let f = d.first in
    let s = d.step in
    let m = d.count in
    let steps : 1 ≤ s = leb-true 1 s (and_left (nat_le 1 s) _ h) in
    let some : 1 ≤ m = leb-true 1 m (and_left (nat_le 1 m) _ (and_right (nat_le 1 s) _ h)) in
    let last : f + (m - 1) * s < n = ltb-true (f + (m - 1) * s) n (and_right (nat_le 1 m) _ (and_right (nat_le 1 s) _ h)) in
    record {
      some = omega (arith, spread_length f s m);
      below = λ k l.
          let b : k < m = omega (arith, spread_length f s m) in
          omega (arith, spread_at f s m k b, job_within f s m n k b last);
      differ = λ i k li lk e.
          let bi : i < m = omega (arith, spread_length f s m) in
          let bk : k < m = omega (arith, spread_length f s m) in
          same f s steps i k (sym (spread_at f s m i bi) ∙ (e ∙ spread_at f s m k bk));
    }
  where
    lower : (f s : ℕ) → 1 ≤ s → (i k : ℕ) → i < k → f + i * s ≢ f + k * s
    lower f s p i k l e = let h : suc i * s ≤ k * s = mul-le-mul_right s l in omega (arith, h, suc-mul i s, e)

    same : (f s : ℕ) → 1 ≤ s → (i k : ℕ) → f + i * s ≡ f + k * s → i ≡ k
    same f s p i k e = elim (dec_lt i k) [
      | yes l ↦ absurd (lower f s p i k l e)
      | no nl ↦ elim (dec_lt k i) [ yes l ↦ absurd (lower f s p k i l (sym e)) | no nk ↦ omega arith ]
    ]

-- ---- by number

-- j is the job at a position below m
abbrev Stands : ℕ → ℕ → ℕ → ℕ → Type 0
Stands f s m j = (k : ℕ) × (k < m) × (f + k * s ≡ j)

member_stands : (f s m j : ℕ) → member (spread f s m) j ≡ true → Stands f s m j
member_stands f s zero j e = absurd (clash refl (sym e))
member_stands f s (suc m) j e = elim (or_cases (j == f) _ e) [
  | inl a ↦ (0, omega arith, omega (arith, zero-mul s, eqb-true j f a))
  | inr b ↦ let (k, l, q) = member_stands (f + s) s m j b in (suc k, omega arith, omega (arith, suc-mul k s))
]

stands_member : (f s m j k : ℕ) → k < m → f + k * s ≡ j → member (spread f s m) j ≡ true
stands_member f s zero j k l q = absurd (omega arith)
stands_member f s (suc m) j zero l q = or_left _ (eq-eqb j f (omega (arith, zero-mul s)))
stands_member f s (suc m) j (suc k) l q = or_right (j == f) (stands_member (f + s) s m j k (omega arith) (omega (arith, suc-mul k s)))

same_test : (a b : Bool) → (a ≡ true → b ≡ true) → (b ≡ true → a ≡ true) → a ≡ b
same_test true b f g = sym (f refl)
same_test false true f g = g refl
same_test false false f g = refl

-- no job is below the first
pub none_below : (d : Progression) (j : ℕ) → j < d.first → false ≡ member (jobs_of d) j
none_below d j l =
    same_test false (member (jobs_of d) j) (λ e. absurd (clash e refl))
    (λ e. let (k, b, q) = member_stands d.first d.step d.count j e in absurd (omega arith))

-- without a step there is one job
pub member_still : (d : Progression) (j : ℕ) → d.first ≤ j → d.step ≡ 0 → (j - d.first == 0 && nat_lt 0 d.count) ≡ member (jobs_of d) j
member_still d j l e =
    same_test (j - d.first == 0 && nat_lt 0 d.count) (member (jobs_of d) j)
    (λ h.
    let here : j - d.first ≡ 0 = eqb-true (j - d.first) 0 (and_left (j - d.first == 0) _ h) in
    stands_member d.first d.step d.count j 0 (ltb-true 0 d.count (and_right (j - d.first == 0) _ h)) (omega (arith, zero-mul d.step)))
    (λ h.
    let (k, b, z) = member_stands d.first d.step d.count j h in
    both (eq-eqb (j - d.first) 0 (omega (arith, ap (λ x. k * x) e, mul-zero k))) (lt-ltb 0 d.count (omega arith)))

-- and with one, those whose distance is a multiple of it
pub member_step : (d : Progression) (j : ℕ) → d.first ≤ j → 0 < d.step → ((j - d.first) % d.step == 0 && nat_lt ((j - d.first) / d.step) d.count) ≡ member (jobs_of d) j
member_step d j l p =
    let f = d.first in
    let s = d.step in
    let m = d.count in
    same_test ((j - f) % s == 0 && nat_lt ((j - f) / s) m) (member (spread f s m) j)
    (λ h. stands_member f s m j ((j - f) / s) (ltb-true ((j - f) / s) m (and_right ((j - f) % s == 0) _ h))
    (omega (arith, div-add-mod' (j - f) s, eqb-true ((j - f) % s) 0 (and_left ((j - f) % s == 0) _ h))))
    (λ h.
    let (k, b, z) = member_stands f s m j h in
    let e : j - f ≡ k * s = omega arith in
    both (eq-eqb ((j - f) % s) 0 (ap (λ x. x % s) e ∙ mul-mod_left k s)) (lt-ltb ((j - f) / s) m (omega (arith, ap (λ x. x / s) e ∙ mul-div_cancel k p))))

-- the same where the distance is known to be a multiple
pub member_multiple : (d : Progression) (j : ℕ) → d.first ≤ j → 0 < d.step → (j - d.first) % d.step ≡ 0 → nat_lt ((j - d.first) / d.step) d.count ≡ member (jobs_of d) j
member_multiple d j l p e = ap (λ b. b && nat_lt ((j - d.first) / d.step) d.count) (sym (eq-eqb ((j - d.first) % d.step) 0 e)) ∙ member_step d j l p

-- ---- the first

pub first_none : (d : Progression) → d.count ≡ 0 → 0 ≡ slice_index (jobs_of d) 0
first_none d = by d.count
  where
    by : (m : ℕ) → m ≡ 0 → 0 ≡ slice_index (spread d.first d.step m) 0
    by zero e = refl
    by (suc m) e = absurd (omega arith)

pub first_some : (d : Progression) → (d.count ≡ 0 → ⊥) → d.first ≡ slice_index (jobs_of d) 0
first_some d = by d.count
  where
    by : (m : ℕ) → (m ≡ 0 → ⊥) → d.first ≡ slice_index (spread d.first d.step m) 0
    by zero ne = absurd (ne refl)
    by (suc m) ne = refl

-- ---- loops over the jobs

-- each turn's job stands at the position of as many as came before it
pub job_of_turn : (d : Progression) (s t u : Jobs) (r : Option ℕ) (xs : List ℕ) (j : ℕ) → jobs_left s ≡ jobs_of d → Yields (YieldsFirst jobs_left) s xs t → r ≡ Some j → YieldsFirst jobs_left t r u →
    (length xs < d.count) × (j ≡ slice_index (jobs_of d) (length xs))
job_of_turn d s t u r xs j e y is steps =
    let turn = YieldsList-turn (YieldsList-from_first (λ x. x) jobs_left (jobs_of d) e) xs t y r u j is steps in
    (omega (arith, turn.0, spread_length d.first d.step d.count), turn.1 ∙ get_or_default (jobs_of d) (length xs) j 0 turn.0)

-- and at the end each of them had one
pub jobs_all : (d : Progression) (s t u : Jobs) (r : Option ℕ) (xs : List ℕ) → jobs_left s ≡ jobs_of d → Yields (YieldsFirst jobs_left) s xs t → r ≡ None → YieldsFirst jobs_left t r u → length xs ≡ d.count
jobs_all d s t u r xs e y is steps =
    (YieldsList-end (YieldsList-from_first (λ x. x) jobs_left (jobs_of d) e) xs t y r u is steps).1 ∙ spread_length d.first d.step d.count
