-- How many places the lists of a table hold together.
use Rattle.std.proofs.Common.{◌≡◌, ℕ, zero, suc, ◌+◌, ◌*◌, min, ◌<◌, ◌≤◌, Bool, true, List, [], ◌∷◌, length, ap, mul-le-mul_right, add-mul, one-mul, arith}
use Rattle.theory.specs.Counts.{count}
use Rattle.theory.proofs.Sums.{count_le, count_tight}
use Rattle.places.specs.Families.{family, Inside}

abbrev pub total : {L : Type 0} → (L → ℕ → Bool) → ℕ → List L → ℕ
total has limit [] = 0
total has limit (x ∷ xs) = count (has x) limit + total has limit xs

module _ {L : Type 0} (has : L → ℕ → Bool) (limit : ℕ) where
  pub total_le : (xs ys : List L) → length xs ≡ length ys → Inside (family has xs) (family has ys) → total has limit xs ≤ total has limit ys
  total_le [] [] e h = omega arith
  total_le [] (y ∷ ys) e h = omega arith
  total_le (x ∷ xs) [] e h = absurd (omega (arith, e))
  total_le (x ∷ xs) (y ∷ ys) e h = omega (arith, count_le (has x) (has y) limit (λ p l. h zero p), total_le xs ys (omega (arith, e)) (λ j p. h (suc j) p))

  -- smaller lists with as many places are the same lists
  pub total_same : (xs ys : List L) → ((y : L) (p : ℕ) → has y p ≡ true → p < limit) → length xs ≡ length ys → Inside (family has xs) (family has ys) → total has limit xs ≡ total has limit ys → Inside (family has ys) (family has xs)
  total_same [] [] law e h t j p u = u
  total_same [] (y ∷ ys) law e h t j p u = absurd (omega (arith, e))
  total_same (x ∷ xs) [] law e h t j p u = absurd (omega (arith, e))
  total_same (x ∷ xs) (y ∷ ys) law e h t zero p u =
      let head = count_le (has x) (has y) limit (λ q l. h zero q) in
      let rest = total_le xs ys (omega (arith, e)) (λ i q. h (suc i) q) in
      count_tight (has x) (has y) limit (λ q l. h zero q) (omega arith) p (law y p u) u
  total_same (x ∷ xs) (y ∷ ys) law e h t (suc j) p u =
      let head = count_le (has x) (has y) limit (λ q l. h zero q) in
      let rest = total_le xs ys (omega (arith, e)) (λ i q. h (suc i) q) in
      total_same xs ys law (omega (arith, e)) (λ i q. h (suc i) q) (omega arith) j p u

-- the measure of settling: what t places are left, and n wake-ups of m rules; it falls with the lists, or with the line
abbrev pub measure : ℕ → ℕ → ℕ → ℕ
measure t m n = t * (m + 1) + min n m

pub falls_lists : (t u m l n : ℕ) → t < u → measure t m l < measure u m n
falls_lists t u m l n less =
    let more : (t + 1) * (m + 1) ≤ u * (m + 1) = mul-le-mul_right (m + 1) (omega arith) in
    omega (arith, more, add-mul t 1 (m + 1), one-mul (m + 1))

pub falls_line : (t u m l n : ℕ) → t ≡ u → n ≤ m → l + 1 ≡ n → measure t m l < measure u m n
falls_line t u m l n same within less = omega (arith, ap (λ v. v * (m + 1)) same)
