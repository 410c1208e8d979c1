-- The binary digits of a number as a set: reading one, shifting, joining, counting, the lowest.
use Rattle.std.proofs.Common.{◌≡◌, ℕ, zero, suc, ◌+◌, ◌*◌, ◌/◌, ◌%◌, ◌^◌, ◌<◌, true, false, cond, not, ◌&&◌, ◌||◌, eqb, sym, refl, ap, ◌∙◌, ⊎_elim, lt_of_lt_of_le, pow-suc, div-one, one-add, arith, pow_mono}
use native.Mathlib.Nat.{div-eq_of_lt, mod-one}
use lib.Bits.{bit_and, bit_or, bit_xor, and_shr, and_mod, or_shr, or_mod, xor_shr, xor_mod}
use lib.Count.{ones, ones_in, count_trailing_zeros, ones_cat, under}
use lib.Dec.{eqb-suc-suc, eqb-zero-suc, eqb-suc-zero}
use Rattle.std.proofs.lemmas.Nat.{shr-shr, mod-pow-add, mod_below, pow_pos}
use Rattle.std.proofs.lemmas.Bool.{lt-ltb, cases_lt, false≢true}
use Rattle.theory.specs.Counts.{bit, sum, count}
use Rattle.places.specs.Sets.{digit, row_has}

-- digit i of n / 2 ^ p is digit p + i of n
pub digit_shr : (n p i : ℕ) → digit (n / 2 ^ p) i ≡ digit n (p + i)
digit_shr n p i = ap (λ x. eqb (x % 2) 1) (shr-shr n p i)

pub digit_suc : (n q : ℕ) → digit n (suc q) ≡ digit (n / 2) q
digit_suc n q = let e : 1 + q ≡ suc q = omega arith in sym (digit_shr n 1 q ∙ ap (digit n) e)

pub digit_none : (q : ℕ) → digit 0 q ≡ false
digit_none zero = refl
digit_none (suc q) = digit_suc 0 q ∙ digit_none q

half_pow : (p : ℕ) → 2 ^ suc p / 2 ≡ 2 ^ p
half_pow p = omega (arith, pow-suc 2 p)

pow_even : (p : ℕ) → 2 ^ suc p % 2 ≡ 0
pow_even p = omega (arith, pow-suc 2 p)

pub digit_low : (n : ℕ) → digit n 0 ≡ eqb (n % 2) 1
digit_low n = ap (λ x. eqb (x % 2) 1) (div-one n)

pub digit_pow : (p q : ℕ) → digit (2 ^ p) q ≡ eqb q p
digit_pow zero zero = refl
digit_pow zero (suc q) = digit_suc 1 q ∙ digit_none q ∙ sym (eqb-suc-zero q)
digit_pow (suc p) zero = digit_low (2 ^ suc p) ∙ ap (λ x. eqb x 1) (pow_even p) ∙ sym (eqb-zero-suc p)
digit_pow (suc p) (suc q) = digit_suc (2 ^ suc p) q ∙ ap (λ x. digit x q) (half_pow p) ∙ digit_pow p q ∙ sym (eqb-suc-suc q p)

-- the low digits of a bitwise operation
low_and : (u v : ℕ) → u < 2 → v < 2 → eqb (bit_and u v) 1 ≡ (eqb u 1 && eqb v 1)
low_and zero v h k = refl
low_and (suc zero) zero h k = refl
low_and (suc zero) (suc zero) h k = refl
low_and (suc (suc u)) v h k = absurd (omega arith)
low_and (suc zero) (suc (suc v)) h k = absurd (omega arith)

low_or : (u v : ℕ) → u < 2 → v < 2 → eqb (bit_or u v) 1 ≡ (eqb u 1 || eqb v 1)
low_or zero v h k = refl
low_or (suc zero) zero h k = refl
low_or (suc zero) (suc zero) h k = refl
low_or (suc (suc u)) v h k = absurd (omega arith)
low_or (suc zero) (suc (suc v)) h k = absurd (omega arith)

low_xor : (u v : ℕ) → u < 2 → v < 2 → eqb (bit_xor u v) 1 ≡ cond (eqb v 1) (not (eqb u 1)) (eqb u 1)
low_xor zero zero h k = refl
low_xor zero (suc zero) h k = refl
low_xor (suc zero) zero h k = refl
low_xor (suc zero) (suc zero) h k = refl
low_xor (suc (suc u)) v h k = absurd (omega arith)
low_xor zero (suc (suc v)) h k = absurd (omega arith)
low_xor (suc zero) (suc (suc v)) h k = absurd (omega arith)

pub digit_and : (a b q : ℕ) → digit (bit_and a b) q ≡ (digit a q && digit b q)
digit_and a b q =
    ap (λ x. eqb (x % 2) 1) (and_shr a b q)
    ∙ ap (λ x. eqb x 1) (and_mod (a / 2 ^ q) (b / 2 ^ q) 1)
    ∙ low_and (a / 2 ^ q % 2) (b / 2 ^ q % 2) (omega arith) (omega arith)

pub digit_or : (a b q : ℕ) → digit (bit_or a b) q ≡ (digit a q || digit b q)
digit_or a b q =
    ap (λ x. eqb (x % 2) 1) (or_shr a b q)
    ∙ ap (λ x. eqb x 1) (or_mod (a / 2 ^ q) (b / 2 ^ q) 1)
    ∙ low_or (a / 2 ^ q % 2) (b / 2 ^ q % 2) (omega arith) (omega arith)

pub digit_xor : (a b q : ℕ) → digit (bit_xor a b) q ≡ cond (digit b q) (not (digit a q)) (digit a q)
digit_xor a b q =
    ap (λ x. eqb (x % 2) 1) (xor_shr a b q)
    ∙ ap (λ x. eqb x 1) (xor_mod (a / 2 ^ q) (b / 2 ^ q) 1)
    ∙ low_xor (a / 2 ^ q % 2) (b / 2 ^ q % 2) (omega arith) (omega arith)

-- a number below 2 ^ k has no digit at k or above
pub digit_below : (k n q : ℕ) → n < 2 ^ k → digit n q ≡ true → q < k
digit_below k n q h e =
    ⊎_elim (λ l. l)
    (λ l. let z : n / 2 ^ q ≡ 0 = div-eq_of_lt (lt_of_lt_of_le h (pow_mono l)) in absurd (false≢true (sym (ap (λ x. eqb (x % 2) 1) z) ∙ e)))
    (cases_lt q k)

digit_ones : (d : ℕ) → d < 2 → ones d ≡ bit (eqb d 1)
unfolding ones ones_in
digit_ones zero h = refl
digit_ones (suc zero) h = refl
digit_ones (suc (suc d)) h = absurd (omega arith)

-- the set digits below k
pub count_digits : (n k : ℕ) → count (digit n) k ≡ ones (n % 2 ^ k)
unfolding sum
count_digits n zero = sym (digit_ones 0 (omega arith)) ∙ ap ones (sym (mod-one n))
count_digits n (suc k) =
    let d = n / 2 ^ k % 2 in
    let split : n % 2 ^ suc k ≡ d * 2 ^ k + n % 2 ^ k = ap (λ x. n % 2 ^ x) (sym (one-add k)) ∙ mod-pow-add n 1 k in
    let cat = ones_cat k d (n % 2 ^ k) (mod_below n (2 ^ k) (pow_pos k)) in
    let low = digit_ones d (omega arith) in
    omega (arith, count_digits n k, ap ones split, cat, low)

-- t is the lowest set digit of n
abbrev pub Lowest : ℕ → ℕ → Type 0
Lowest n t = (digit n t ≡ true) × ((i : ℕ) → i < t → digit n i ≡ false)

lower : (n t : ℕ) → n % 2 ≡ 0 → ((i : ℕ) → i < t → digit (n / 2) i ≡ false) → (i : ℕ) → i < suc t → digit n i ≡ false
lower n t e low zero h = digit_low n ∙ ap (λ x. eqb x 1) e
lower n t e low (suc i) h = digit_suc n i ∙ low i (omega arith)

trailing_step : (n t d : ℕ) → n % 2 ≡ d → d < 2 → (d ≡ 0 → Lowest (n / 2) t) → Lowest n (under d t)
trailing_step n t zero e h low = (digit_suc n t ∙ (low refl).0, lower n t e (low refl).1)
trailing_step n t (suc zero) e h low = (digit_low n ∙ ap (λ x. eqb x 1) e, λ i k. absurd (omega arith))
trailing_step n t (suc (suc d)) e h low = absurd (omega arith)

pub trailing_lowest : (k n : ℕ) → 0 < n → n < 2 ^ k → Lowest n (count_trailing_zeros k n)
unfolding count_trailing_zeros
trailing_lowest zero n l h = absurd (omega arith)
trailing_lowest (suc k) n l h =
    trailing_step n (count_trailing_zeros k (n / 2)) (n % 2) refl (omega arith)
    (λ e. trailing_lowest k (n / 2) (omega arith) (omega (arith, pow-suc 2 k)))

-- below 64 a row's test is the digit
pub row_in : (n p : ℕ) → p < 64 → row_has n p ≡ digit n p
row_in n p h = ap (λ b. b && digit n p) (lt-ltb p 64 h)
