-- Counts and the front of a table, one number further.
use Rattle.std.proofs.Common.{filter, count_by, zero, suc, ◌≤◌, ◌==◌, if◌then◌else◌, take_all, ◌≡◌, ℕ, ◌+◌, ◌<◌, Bool, true, false, not, List, [], ◌∷◌, ◌++◌, length, take, drop, set, sym, refl, ap, ◌∙◌, inl, inr, add-one, arith}
use Rattle.std.proofs.lemmas.List.Filters.{length-filter_more}
use Rattle.std.proofs.lemmas.List.Sums.{length-filter}
use Rattle.std.proofs.lemmas.List.{take_more_set, drop-set-lt, drop-drop}
use Rattle.theory.specs.Counts.{bit, sum, count}
use Rattle.theory.proofs.Sums.{cases, count_pos, count_same}
use Rattle.matching.specs.Tables.{at, filled}

pub count_none : (t : ℕ → Bool) → count t 0 ≡ 0
unfolding sum
count_none t = refl

pub count_more : (t : ℕ → Bool) (i : ℕ) → count t (i + 1) ≡ count t i + bit (t i)
unfolding sum
count_more t i = rw add-one

-- how many numbers of a list pass a test, place by place
count_passing : (f : ℕ → Bool) (xs : List ℕ) (i : ℕ) → i ≤ length xs → length (filter f (take i xs)) ≡ count (λ k. f (at xs k)) i
count_passing f xs zero l = sym (count_none (λ k. f (at xs k)))
count_passing f xs (suc i) l =
    let next : suc i ≡ i + 1 = omega arith in
    ap (λ n. length (filter f (take n xs))) next ∙ length-filter_more f xs i 0 (omega arith)
    ∙ ap (λ n. n + (if f (at xs i) then 1 else 0)) (count_passing f xs i (omega arith))
    ∙ ap (λ n. count (λ k. f (at xs k)) i + n) (one (f (at xs i)))
    ∙ sym (count_more (λ k. f (at xs k)) i) ∙ ap (count (λ k. f (at xs k))) (sym next)
  where
    one : (b : Bool) → (if b then 1 else 0) ≡ bit b
    one true = refl
    one false = refl

-- how many slots have no number
pub missing : (xs : List ℕ) → count_by (λ x. x == 65535) xs ≡ count (λ k. not (filled xs k)) (length xs)
missing xs =
    sym (length-filter (λ x. x == 65535) xs) ∙ ap (λ ys. length (filter (λ x. x == 65535) ys)) (sym (take_all (length xs) xs (omega arith)))
    ∙ count_passing (λ x. x == 65535) xs (length xs) (omega arith)
    ∙ count_same (λ k. at xs k == 65535) (λ k. not (filled xs k)) (length xs) (λ k l. sym (twice (at xs k == 65535)))
  where
    twice : (b : Bool) → not (not b) ≡ b
    twice true = refl
    twice false = refl

-- one more number at the front of a table
pub front_more : (table : List ℕ) (len v : ℕ) (xs : List ℕ) → len < length table → take len table ≡ xs → take (len + 1) (set table len v) ≡ xs ++ v ∷ []
front_more table len v xs l e = take_more_set table len v l ∙ ap (λ (ys : List ℕ). ys ++ v ∷ []) e

pub rest_more : (before table : List ℕ) (len v : ℕ) → drop len table ≡ drop len before → drop (len + 1) (set table len v) ≡ drop (len + 1) before
rest_more before table len v e =
    drop-set-lt (len + 1) table len v (omega arith) ∙ (sym (drop-drop 1 len table) ∙ (ap (drop 1) e ∙ drop-drop 1 len before))

-- where no number is missing, each is there
pub none_missing : (xs : List ℕ) (n : ℕ) → count (λ k. not (filled xs k)) n ≡ 0 → (i : ℕ) → i < n → filled xs i ≡ true
none_missing xs n h i l = elim (cases (filled xs i)) [
  | inl e ↦ e
  | inr e ↦ absurd (omega (arith, h, count_pos (λ k. not (filled xs k)) n i l (ap not e)))
]
