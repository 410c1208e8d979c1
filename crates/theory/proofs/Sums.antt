-- Laws of sums and counts below a bound.
use Prim.Native.Nat.{ℕ, zero, suc, ◌+◌, ◌<◌, ◌≤◌}
use mathlib.Core.Path.{◌≡◌, refl, sym, ap, ap₂, ◌∙◌}
use mathlib.Core.Bool.{Bool, true, false, ◌&&◌, ◌||◌, not, true≢false}
use mathlib.Core.Logic.{◌⊎◌, inl, inr}
use native.Mathlib.Decide.{ℕ_discrete}
use native.Mathlib.Omega.{arith}
use lib.Dec.{eqb}
use borrow.Author.Tests.{eq-eqb, ne_eqb}
use Rattle.theory.specs.Counts.{bit, gate, sum, count, some}

-- ---- a Bool is true or false

pub cases : (b : Bool) → (b ≡ true) ⊎ (b ≡ false)
cases true = inl refl
cases false = inr refl

pub clash : {b : Bool} → b ≡ true → b ≡ false → ⊥
clash e d = true≢false (sym e ∙ d)

pub and_left : (a b : Bool) → (a && b) ≡ true → a ≡ true
and_left true b e = refl
and_left false b e = e

pub and_right : (a b : Bool) → (a && b) ≡ true → b ≡ true
and_right true b e = e
and_right false b e = absurd (clash refl (sym e))

pub both : {a b : Bool} → a ≡ true → b ≡ true → (a && b) ≡ true
both {a} {b} d e = ap₂ ◌&&◌ d e

pub or_left : {a : Bool} (b : Bool) → a ≡ true → (a || b) ≡ true
or_left {a} b e = simp e

pub or_right : (a : Bool) {b : Bool} → b ≡ true → (a || b) ≡ true
or_right true e = refl
or_right false e = e

pub or_cases : (a b : Bool) → (a || b) ≡ true → (a ≡ true) ⊎ (b ≡ true)
or_cases true b e = inl refl
or_cases false b e = inr e

-- a test that implies another weighs no more
pub bit_le : (a b : Bool) → (a ≡ true → b ≡ true) → bit a ≤ bit b
bit_le true b h = omega (arith, ap bit (h refl))
bit_le false b h = omega arith

pub bit_one : (a : Bool) → bit a ≤ 1
bit_one true = omega arith
bit_one false = omega arith

pub bit_same : (a b : Bool) → (a ≡ true → b ≡ true) → (b ≡ true → a ≡ true) → bit a ≡ bit b
bit_same a b f g = omega (arith, bit_le a b f, bit_le b a g)

-- ---- sums

pub sum_le : (f g : ℕ → ℕ) (n : ℕ) → ((k : ℕ) → k < n → f k ≤ g k) → sum f n ≤ sum g n
unfolding sum
sum_le f g zero h = omega arith
sum_le f g (suc n) h =
    let r : sum f n ≤ sum g n = sum_le f g n (λ k l. h k (omega arith)) in
    omega (arith, h n (omega arith))

pub sum_eq : (f g : ℕ → ℕ) (n : ℕ) → ((k : ℕ) → k < n → f k ≡ g k) → sum f n ≡ sum g n
unfolding sum
sum_eq f g zero h = refl
sum_eq f g (suc n) h = ap₂ ◌+◌ (sum_eq f g n (λ k l. h k (omega arith))) (h n (omega arith))

pub sum_add : (f g : ℕ → ℕ) (n : ℕ) → sum (λ k. f k + g k) n ≡ sum f n + sum g n
unfolding sum
sum_add f g zero = refl
sum_add f g (suc n) = omega (arith, sum_add f g n)

pub sum_zero : (f : ℕ → ℕ) (n : ℕ) → ((k : ℕ) → k < n → f k ≡ 0) → sum f n ≡ 0
unfolding sum
sum_zero f zero h = refl
sum_zero f (suc n) h = omega (arith, sum_zero f n (λ k l. h k (omega arith)), h n (omega arith))

-- a term is at most the sum
pub sum_term : (f : ℕ → ℕ) (n q : ℕ) → q < n → f q ≤ sum f n
unfolding sum
sum_term f zero q l = omega arith
sum_term f (suc n) q l =
    elim (ℕ_discrete n q) [
      | yes e ↦ omega (arith, ap f e)
      | no ne ↦ omega (arith, sum_term f n q (omega arith))
    ]

-- a sum whose other terms are 0 is that one term
pub sum_at : (f : ℕ → ℕ) (n q : ℕ) → q < n → ((k : ℕ) → k < n → (k ≡ q → ⊥) → f k ≡ 0) → sum f n ≡ f q
unfolding sum
sum_at f zero q l h = omega arith
sum_at f (suc n) q l h =
    elim (ℕ_discrete n q) [
      | yes e ↦ omega (arith, ap f e, sum_zero f n (λ k s. h k (omega arith) (omega arith)))
      | no ne ↦ omega (arith, h n (omega arith) ne, sum_at f n q (omega arith) (λ k s. h k (omega arith)))
    ]

-- two functions that differ at one place below n
pub sum_put : (f g : ℕ → ℕ) (n q : ℕ) → q < n → ((k : ℕ) → k < n → (k ≡ q → ⊥) → f k ≡ g k) → sum f n + g q ≡ sum g n + f q
unfolding sum
sum_put f g zero q l h = omega arith
sum_put f g (suc n) q l h =
    elim (ℕ_discrete n q) [
      | yes e ↦ omega (arith, ap f e, ap g e, sum_eq f g n (λ k s. h k (omega arith) (omega arith)))
      | no ne ↦ omega (arith, h n (omega arith) ne, sum_put f g n q (omega arith) (λ k s. h k (omega arith)))
    ]

-- where a sum is no greater than a smaller one, they agree at each place
pub sum_tight : (f g : ℕ → ℕ) (n : ℕ) → ((k : ℕ) → k < n → f k ≤ g k) → sum g n ≤ sum f n → (k : ℕ) → k < n → g k ≤ f k
unfolding sum
sum_tight f g zero h s k l = omega arith
sum_tight f g (suc n) h s k l =
    let b : sum f n ≤ sum g n = sum_le f g n (λ j i. h j (omega arith)) in
    let c : f n ≤ g n = h n (omega arith) in
    elim (ℕ_discrete n k) [
      | yes e ↦ omega (arith, ap f e, ap g e)
      | no ne ↦ sum_tight f g n (λ j i. h j (omega arith)) (omega arith) k (omega arith)
    ]

-- ---- counts

pub count_le : (s t : ℕ → Bool) (n : ℕ) → ((k : ℕ) → k < n → s k ≡ true → t k ≡ true) → count s n ≤ count t n
count_le s t n h = sum_le _ _ n (λ k l. bit_le (s k) (t k) (h k l))

pub count_eq : (s t : ℕ → Bool) (n : ℕ) → ((k : ℕ) → k < n → s k ≡ true → t k ≡ true) → ((k : ℕ) → k < n → t k ≡ true → s k ≡ true) → count s n ≡ count t n
count_eq s t n f g = sum_eq _ _ n (λ k l. bit_same (s k) (t k) (f k l) (g k l))

bit_tight : (a b : Bool) → bit b ≤ bit a → b ≡ true → a ≡ true
bit_tight true b l e = refl
bit_tight false b l e = absurd (let z : bit b ≡ 1 = ap bit e in omega arith)

-- a set inside another, with as many elements, is all of it
pub count_tight : (s t : ℕ → Bool) (n : ℕ) → ((k : ℕ) → k < n → s k ≡ true → t k ≡ true) → count t n ≤ count s n → (k : ℕ) → k < n → t k ≡ true → s k ≡ true
count_tight s t n h c k l = bit_tight (s k) (t k) (sum_tight _ _ n (λ j i. bit_le (s j) (t j) (h j i)) c k l)

bit_split : (a b : Bool) → bit a ≡ bit (a && b) + bit (a && not b)
bit_split true true = refl
bit_split true false = refl
bit_split false b = refl

-- a set is its part in another and its part outside
pub count_split : (s t : ℕ → Bool) (n : ℕ) → count s n ≡ count (λ k. s k && t k) n + count (λ k. s k && not (t k)) n
count_split s t n = sum_eq _ _ n (λ k l. bit_split (s k) (t k)) ∙ sum_add _ _ n

-- one element makes a count positive
pub count_pos : (s : ℕ → Bool) (n q : ℕ) → q < n → s q ≡ true → 0 < count s n
count_pos s n q l e = omega (arith, sum_term (λ k. bit (s k)) n q l, ap bit e)

pub count_same : (s t : ℕ → Bool) (n : ℕ) → ((k : ℕ) → k < n → s k ≡ t k) → count s n ≡ count t n
count_same s t n h = sum_eq _ _ n (λ k l. ap bit (h k l))

pub count_most : (s : ℕ → Bool) (n : ℕ) → count s n ≤ n
unfolding sum
count_most s zero = omega arith
count_most s (suc n) = omega (arith, count_most s n, bit_one (s n))

pub count_none : (s : ℕ → Bool) (n : ℕ) → ((k : ℕ) → k < n → s k ≡ false) → count s n ≡ 0
count_none s n h = sum_zero _ n (λ k l. ap bit (h k l))

-- one element more
pub count_insert : (s : ℕ → Bool) (x n : ℕ) → x < n → s x ≡ false → count (λ k. eqb k x || s k) n ≡ count s n + 1
count_insert s x n l out =
    let differ = sum_put (λ k. bit (eqb k x || s k)) (λ k. bit (s k)) n x l (λ k h ne. ap (λ b. bit (b || s k)) (ne_eqb k x ne)) in
    omega (arith, differ, ap bit out, ap (λ b. bit (b || s x)) (eq-eqb x x refl))

-- a set that lacks q, inside one that has it, has fewer elements
pub count_lt : (s t : ℕ → Bool) (n q : ℕ) → ((k : ℕ) → k < n → s k ≡ true → t k ≡ true) → q < n → s q ≡ false → t q ≡ true → count s n < count t n
count_lt s t n q h l e d = elim (leq (count t n) (count s n)) [
  | inl r ↦ absurd (clash (count_tight s t n h r q l d) e)
  | inr r ↦ r
]
  where
    leq : (a b : ℕ) → (a ≤ b) ⊎ (b < a)
    leq a b = elim (native.Mathlib.Decide.dec_le a b) [ yes r ↦ inl r | no r ↦ inr (omega arith) ]

-- ---- some element passes

pub some_has : (t : ℕ → Bool) (n k : ℕ) → k < n → t k ≡ true → some t n ≡ true
unfolding some
some_has t zero k l e = absurd (omega arith)
some_has t (suc n) k l e =
    elim (ℕ_discrete n k) [
      | yes d ↦ simp (ap t d, e)
      | no ne ↦ or_right (t n) (some_has t n k (omega arith) e)
    ]

pub some_at : (t : ℕ → Bool) (n : ℕ) → some t n ≡ true → (k : ℕ) × (k < n) × (t k ≡ true)
unfolding some
some_at t zero e = absurd (clash refl (sym e))
some_at t (suc n) e = go (some_at t n) (t n) refl e
  where
    go : (some t n ≡ true → (k : ℕ) × (k < n) × (t k ≡ true)) → (b : Bool) → t n ≡ b → (b || some t n) ≡ true → (k : ℕ) × (k < suc n) × (t k ≡ true)
    go r true d e = (n, omega arith, d)
    go r false d e = let (k, l, h) = r e in (k, omega arith, h)

pub some_same : (s t : ℕ → Bool) (n : ℕ) → ((k : ℕ) → k < n → s k ≡ t k) → some s n ≡ some t n
unfolding some
some_same s t zero h = refl
some_same s t (suc n) h = ap₂ ◌||◌ (h n (omega arith)) (some_same s t n (λ k l. h k (omega arith)))

-- a count that is not 0 has an element
pub count_has : (t : ℕ → Bool) (n : ℕ) → 0 < count t n → (k : ℕ) × (k < n) × (t k ≡ true)
count_has t n h = elim (cases (some t n)) [
  | inl e ↦ some_at t n e
  | inr e ↦ absurd (omega (arith, count_none t n (λ k l. elim (cases (t k)) [ inl d ↦ absurd (clash (some_has t n k l d) e) | inr d ↦ d ])))
]

pub count_all : (n : ℕ) → count (λ k. true) n ≡ n
unfolding sum
count_all zero = refl
count_all (suc n) = omega (arith, count_all n)

-- ---- a count by classes

gate_zero : (b : Bool) → gate b 0 ≡ 0
gate_zero true = refl
gate_zero false = refl

gate_add : (b : Bool) (x y : ℕ) → gate b (x + y) ≡ gate b x + gate b y
gate_add true x y = refl
gate_add false x y = refl

pub gate_le : (b : Bool) (x y : ℕ) → (b ≡ true → x ≤ y) → gate b x ≤ gate b y
gate_le true x y h = h refl
gate_le false x y h = omega arith

gate_bit : (b a : Bool) → gate b (bit a) ≡ bit (a && b)
gate_bit true true = refl
gate_bit true false = refl
gate_bit false true = refl
gate_bit false false = refl

gate_off : (b a t : Bool) → t ≡ false → gate b (bit (a && t)) ≡ 0
gate_off true true t e = ap bit e
gate_off true false t e = refl
gate_off false a t e = refl

gate_here : (b a t : Bool) → t ≡ true → gate b (bit (a && t)) ≡ bit (a && b)
gate_here b true t e = simp (e, gate_bit)
gate_here b false t e = gate_zero b

-- one element adds 1 to the one class that it is in
class_one : (N : ℕ → Bool) (a : Bool) (c w : ℕ) → (a ≡ true → c < w) → sum (λ q. gate (N q) (bit (a && eqb c q))) w ≡ bit (a && N c)
class_one N true c w h =
    sum_at (λ q. gate (N q) (bit (true && eqb c q))) w c (h refl) (λ k l ne. gate_off (N k) true (eqb c k) (ne_eqb c k (λ e. ne (sym e))))
    ∙ gate_here (N c) true (eqb c c) (eq-eqb c c refl)
class_one N false c w h = sum_zero _ w (λ k l. gate_zero (N k))

-- the elements of A whose class lies in N, counted class by class
pub count_classes : (N A : ℕ → Bool) (f : ℕ → ℕ) (w n : ℕ) → ((k : ℕ) → k < n → A k ≡ true → f k < w) → sum (λ q. gate (N q) (count (λ k. A k && eqb (f k) q) n)) w ≡ count (λ k. A k && N (f k)) n
unfolding sum
count_classes N A f w zero h = sum_zero _ w (λ k l. gate_zero (N k))
count_classes N A f w (suc n) h =
    sum_eq _ _ w (λ q l. gate_add (N q) (count (λ k. A k && eqb (f k) q) n) (bit (A n && eqb (f n) q)))
    ∙ (sum_add _ _ w ∙ ap₂ ◌+◌ (count_classes N A f w n (λ k l. h k (omega arith))) (class_one N (A n) (f n) w (h n (omega arith))))
