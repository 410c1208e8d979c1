-- What a block's bytes say of the sheet's, and the steps of the loop over its blocks.
use Rattle.std.proofs.Common.{◌≡◌, ℕ, zero, suc, ◌+◌, ◌-◌, ◌*◌, ◌<◌, ◌≤◌, true, List, [], ◌∷◌, length, slice_index, slice_index_or, take, drop, slice_range, ◌==◌, None, refl, sym, ap, ◌∙◌, add-one, arith, rules, mul-le-mul, Fits, w8}
use Rattle.std.specs.List.{sum_by, enumerate_from, list_all}
use Rattle.std.proofs.lemmas.Bool.Decides.{nat_tests}
use Rattle.std.proofs.lemmas.List.{get_or_default, length-take-le, get_or-take, take_all, drop_more, take-take, drop-drop, drop-take}
use Rattle.std.proofs.lemmas.List.Edits.{get_or-between}
use Rattle.std.proofs.lemmas.List.Sums.{sum_by-cons, sum_by_more}
use Rattle.std.proofs.lemmas.List.FromFn.{length-enumerate_from, get_or-enumerate_from}
use Rattle.layout.specs.Layout.{weighted, zeros, allows, record_length, right_count, letter_rank_of, records_of, records_end, fault_or, fault_in, fault_from}

-- a byte with its place: both are small
pub byte_at : (s : List ℕ) (p : ℕ × ℕ) (k : ℕ) → ((i : ℕ) → Fits w8 (slice_index s i)) → k < length (enumerate_from 0 s) → p ≡ slice_index_or (enumerate_from 0 s) k p → (p.0 < length s) × (p.1 < 256)
byte_at s p k h l e =
    let inside : k < length s = omega (arith, length-enumerate_from 0 s) in
    let q : p ≡ (0 + k, slice_index_or s k p.1) = e ∙ get_or-enumerate_from 0 s k p inside in
    let d : slice_index_or s k p.1 ≡ slice_index s k = get_or_default s k p.1 0 inside in
    let b : slice_index s k < 256 = (let f : Fits w8 (slice_index s k) = h k in search rules) in
    (omega (arith, ap (λ (x : ℕ × ℕ). x.0) q), omega (arith, ap (λ (x : ℕ × ℕ). x.1) q))

-- what a byte adds to the weighted sum, by its place from 0 on
abbrev pub weight : ℕ × ℕ → ℕ
weight p = (p.0 + 1) * p.1

-- 508 bytes add at most 508 * 255 each
pub sum_by-weight-le : (n : ℕ) (s : List ℕ) → ((i : ℕ) → Fits w8 (slice_index s i)) → n + length s ≤ 508 → sum_by weight (enumerate_from n s) ≤ 129540 * length s
sum_by-weight-le n [] h l = omega arith
sum_by-weight-le n (x ∷ s) h l =
    let rest : sum_by weight (enumerate_from (n + 1) s) ≤ 129540 * length s = sum_by-weight-le (n + 1) s (λ i. h (suc i)) (omega arith) in
    let b : x < 256 = (let f : Fits w8 x = h 0 in search rules) in
    let here : (n + 1) * x ≤ 508 * 255 = search (rules, mul-le-mul) in
    omega (arith, sum_by-cons weight (n, x) (enumerate_from (n + 1) s))

-- the weighted sum in the library's words
weighted_front : (s : List ℕ) (n : ℕ) → n ≤ length s → weighted s 0 n ≡ sum_by weight (take n (enumerate_from 0 s))
unfolding weighted
weighted_front s zero h = refl
weighted_front s (suc n) h =
    let placed : List (ℕ × ℕ) = enumerate_from 0 s in
    let inside : n < length s = omega arith in
    let before : weighted s 0 n ≡ sum_by weight (take n placed) = weighted_front s n (omega arith) in
    let more : sum_by weight (take (n + 1) placed) ≡ sum_by weight (take n placed) + weight (slice_index_or placed n (0, 0)) =
    sum_by_more weight placed n (0, 0) (omega (arith, length-enumerate_from 0 s)) in
    let here : weight (slice_index_or placed n (0, 0)) ≡ (0 + n + 1) * slice_index s n = ap weight (get_or-enumerate_from 0 s n (0, 0) inside) in
    grind (arith, add-one)

pub weighted_all : (s : List ℕ) → weighted s 0 (length s) ≡ sum_by weight (enumerate_from 0 s)
weighted_all s =
    weighted_front s (length s) (omega arith)
    ∙ ap (sum_by weight) (take_all (length s) (enumerate_from 0 s) (omega (arith, length-enumerate_from 0 s)))

-- the weighted sum of a list that is a part of another
weighted_part : (s xs : List ℕ) (at n : ℕ) → ((i : ℕ) → i < n → slice_index xs i ≡ slice_index s (at + i)) → weighted xs 0 n ≡ weighted s at n
unfolding weighted
weighted_part s xs at zero h = refl
weighted_part s xs at (suc n) h =
    let before : weighted xs 0 n ≡ weighted s at n = weighted_part s xs at n (λ i l. h i (omega arith)) in
    let here : slice_index xs n ≡ slice_index s (at + n) = h n (omega arith) in
    grind arith

-- a block's bytes before its check
pub body_long : (b : List ℕ) → length b ≡ 512 → length (take 508 b) ≡ 508
body_long b h = length-take-le 508 b (omega arith)

-- the weighted sum of a block's bytes before its check
pub weighted_body : (s b : List ℕ) (at : ℕ) → b ≡ slice_range s at (at + 512) → length b ≡ 512 → weighted (take 508 b) 0 (length (take 508 b)) ≡ weighted s at 508
weighted_body s b at e h =
    ap (weighted (take 508 b) 0) (body_long b h)
    ∙ weighted_part s (take 508 b) at 508
    (λ i l. get_or-take 508 b i 0 l ∙ ap (λ (xs : List ℕ). slice_index xs i) e ∙ get_or-between s at (at + 512) i 0 (omega arith))

-- zeros, in the library's words
zeros_part : (s : List ℕ) (at n : ℕ) → at + n ≤ length s → zeros s at n ≡ list_all (λ b. b == 0) (take n (drop at s))
unfolding zeros
zeros_part s at zero h = refl
zeros_part s at (suc n) h =
    let rest : zeros s (at + 1) n ≡ list_all (λ b. b == 0) (take n (drop (at + 1) s)) = zeros_part s (at + 1) n (omega arith) in
    let first : drop at s ≡ slice_index s at ∷ drop (at + 1) s = drop_more s at 0 (omega arith) in
    rw (first, rest) refl

-- zeros of a block up to its check
pub zeros_body : (s b : List ℕ) (at end : ℕ) → b ≡ slice_range s at (at + 512) → at + 512 ≤ length s → end ≤ 508 → list_all (λ x. x == 0) (slice_range b end 508) ≡ zeros s (at + end) (508 - end)
zeros_body s b at end e l h =
    let width : (at + 512) - at ≡ end + (512 - end) = omega arith in
    let cut : drop end b ≡ take (512 - end) (drop (at + end) s) = ap (drop end) (e ∙ ap (λ (n : ℕ). take n (drop at s)) width) ∙ drop-take end (512 - end) (drop at s) ∙ ap (take (512 - end)) (drop-drop end at s) in
    ap (λ (xs : List ℕ). list_all (λ x. x == 0) (take (508 - end) xs)) cut
    ∙ ap (list_all (λ x. x == 0)) (take-take (508 - end) (512 - end) (drop (at + end) s) (omega arith))
    ∙ sym (zeros_part s (at + end) (508 - end) (omega arith))

-- allowed records lie inside the body
pub allowed_fit : (r n : ℕ) → allows r n ≡ true → n * record_length r ≤ 504
allowed_fit r n h = grind (arith, nat_tests)

pub end_within : (s : List ℕ) (k : ℕ) → right_count s k ≡ true → records_end s k ≤ 508
unfolding right_count
end_within s k h = omega (arith, allowed_fit (letter_rank_of s k) (records_of s k) h)

pub fault_none : (s : List ℕ) (k n : ℕ) → n ≡ 0 → fault_from s k n ≡ None
unfolding fault_from
fault_none s k n e = ap (fault_from s k) e

pub fault_step : (s : List ℕ) (k n : ℕ) → 0 < n → fault_from s k n ≡ fault_or (fault_in s k) k (fault_from s (k + 1) (n - 1))
unfolding fault_from
fault_step s k n h = let p : n ≡ suc (n - 1) = omega arith in ap (fault_from s k) p
