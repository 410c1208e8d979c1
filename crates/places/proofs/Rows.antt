-- What a row's operations do to the set that it stands for.
use Rattle.std.proofs.Common.{◌≡◌, ℕ, ◌+◌, ◌-◌, ◌*◌, ◌/◌, ◌%◌, ◌^◌, ◌<◌, ◌≤◌, Bool, true, false, cond, not, ◌&&◌, ◌||◌, eqb, ltb, Some, sym, refl, ap, ◌∙◌, ⊎_elim, mod-eq_of_lt, arith}
use lib.Bits.{bit_and, bit_or, bit_xor}
use lib.Count.{ones, count_trailing_zeros}
use Rattle.std.proofs.lemmas.Nat.{one_shl, shr_le}
use Rattle.std.proofs.lemmas.Bool.{lt-ltb, le-ltb, eqb-true, and_right, cases_Bool}
use Rattle.theory.specs.Counts.{count}
use Rattle.theory.proofs.Sums.{count_same}
use Rattle.places.specs.Sets.{digit, row_has, First}
use Rattle.places.proofs.Digits.{digit_shr, digit_none, digit_pow, digit_xor, digit_and, digit_or, digit_below, count_digits, trailing_lowest, row_in}

-- one place
pub row_one : (p : ℕ) → p < 64 → (q : ℕ) → row_has ((1 * 2 ^ p) % 2 ^ 64) q ≡ (ltb q 64 && eqb q p)
row_one p h q = ap (λ m. row_has m q) (one_shl p 64 h) ∙ ap (λ b. ltb q 64 && b) (digit_pow p q)

-- no place
pub row_empty : (q : ℕ) → row_has 0 q ≡ false
row_empty q = and_right (ltb q 64) (digit 0 q) (digit_none q)

-- a place of 64 or more is no place
pub past_row : (p : ℕ) → 64 ≤ p → (q : ℕ) → row_has 0 q ≡ (ltb q 64 && eqb q p)
past_row p h q = row_empty q ∙ sym (⊎_elim (λ e. ap (λ b. b && eqb q p) (le-ltb q 64 (omega (arith, eqb-true q p e)))) (λ e. and_right (ltb q 64) (eqb q p) e) (cases_Bool (eqb q p)))

shared : (l a b : Bool) → (l && (a && b)) ≡ ((l && a) && (l && b))
shared true a b = refl
shared false a b = refl

either : (l a b : Bool) → (l && (a || b)) ≡ ((l && a) || (l && b))
either true a b = refl
either false a b = refl

left_over : (l a b : Bool) → (l && cond (a && b) (not a) a) ≡ ((l && a) && not (l && b))
left_over true true true = refl
left_over true true false = refl
left_over true false b = refl
left_over false a b = refl

pub row_and : (a b q : ℕ) → row_has (bit_and a b) q ≡ (row_has a q && row_has b q)
row_and a b q = ap (λ x. ltb q 64 && x) (digit_and a b q) ∙ shared (ltb q 64) (digit a q) (digit b q)

pub row_or : (a b q : ℕ) → row_has (bit_or a b) q ≡ (row_has a q || row_has b q)
row_or a b q = ap (λ x. ltb q 64 && x) (digit_or a b q) ∙ either (ltb q 64) (digit a q) (digit b q)

pub row_without : (a b q : ℕ) → row_has (bit_xor a (bit_and a b)) q ≡ (row_has a q && not (row_has b q))
row_without a b q =
    ap (λ x. ltb q 64 && x) (digit_xor a (bit_and a b) q ∙ ap (λ e. cond e (not (digit a q)) (digit a q)) (digit_and a b q))
    ∙ left_over (ltb q 64) (digit a q) (digit b q)

module _ (n p : ℕ) where
  pub row_none : n / 2 ^ p ≡ 0 → (q : ℕ) → p ≤ q → row_has n q ≡ false
  row_none z q h =
      let e : p + (q - p) ≡ q = omega arith in
      and_right (ltb q 64) (digit n q) (sym (ap (digit n) e) ∙ sym (digit_shr n p (q - p)) ∙ ap (λ m. digit m (q - p)) z ∙ digit_none (q - p))

  pub row_first : n < 2 ^ 64 → (n / 2 ^ p ≡ 0 → ⊥) → First (row_has n) p (Some (p + count_trailing_zeros 64 (n / 2 ^ p)))
  row_first small some =
      let rest = n / 2 ^ p in
      let t = count_trailing_zeros 64 rest in
      let low = trailing_lowest 64 rest (omega arith) (omega (arith, shr_le n p)) in
      let here : digit n (p + t) ≡ true = sym (digit_shr n p t) ∙ low.0 in (
        omega arith,
        row_in n (p + t) (digit_below 64 n (p + t) small here) ∙ here,
        λ q from below.
            let e : p + (q - p) ≡ q = omega arith in
            and_right (ltb q 64) (digit n q) (sym (ap (digit n) e) ∙ sym (digit_shr n p (q - p)) ∙ low.1 (q - p) (omega arith)),
      )

pub row_count : (n : ℕ) → n < 2 ^ 64 → ones n ≡ count (row_has n) 64
row_count n small = sym (count_same (row_has n) (digit n) 64 (row_in n) ∙ count_digits n 64 ∙ ap ones (mod-eq_of_lt small))

-- the row of 64 is empty
pub no_row : (q : ℕ) → (ltb q 64 && eqb q 64) ≡ false
no_row q = ⊎_elim (λ e. ap (λ b. b && eqb q 64) (le-ltb q 64 (omega (arith, eqb-true q 64 e)))) (λ e. and_right (ltb q 64) (eqb q 64) e) (cases_Bool (eqb q 64))

grouped : (r l e m : Bool) → (e ≡ true → l ≡ true) → ((r || (l && e)) || m) ≡ (r || (e || m))
grouped true l e m h = refl
grouped false l true m h = ap (λ b. (b && true) || m) (h refl)
grouped false true false m h = refl
grouped false false false m h = refl

-- a place joins those of a row
pub one_more : (r m : Bool) (x q : ℕ) → x < 64 → ((r || (ltb q 64 && eqb q x)) || m) ≡ (r || (eqb q x || m))
one_more r m x q h = grouped r (ltb q 64) (eqb q x) m (λ e. lt-ltb q 64 (omega (arith, eqb-true q x e)))

pub or_none : (b : Bool) → (b || false) ≡ b
or_none true = refl
or_none false = refl
