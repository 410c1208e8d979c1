-- Rows as lists and as functions.
use Prim.Native.Nat.{ℕ, zero, suc, ◌+◌, ◌<◌, ◌≤◌}
use mathlib.Core.Path.{◌≡◌, refl, sym, ap, ◌∙◌, subst}
use mathlib.Core.Bool.{true}
use mathlib.Core.List.{List, [], ◌∷◌}
use native.Mathlib.Decide.{dec_le}
use native.Mathlib.Omega.{arith}
use lib.Dec.{eqb, leb}
use lib.ListN.{length, get_or}
use borrow.Author.Tests.{leb-true, le-leb, eqb-true}
use Rattle.theory.specs.Counts.{bit, sum, count}
use Rattle.theory.specs.Assignments.{Problem, load, all, Support}
use Rattle.theory.specs.RowSupports.{RowSupport}
use Rattle.theory.specs.Rows.{occurs, fit, admits}
use Rattle.theory.proofs.Sums.{and_left, and_right, both, sum_eq, count_has}

-- a sum from its first term on
sum_first : (f : ℕ → ℕ) (n : ℕ) → sum f (suc n) ≡ f 0 + sum (λ k. f (suc k)) n
unfolding sum
sum_first f zero = omega arith
sum_first f (suc n) = omega (arith, sum_first f n)

-- how often a place occurs is a count over the positions
pub occurs_count : (p : ℕ) (row : List ℕ) → occurs p row ≡ count (λ k. eqb (get_or row k 0) p) (length row)
unfolding sum
occurs_count p [] = refl
occurs_count p (x ∷ xs) = omega (arith, sum_first (λ k. bit (eqb (get_or (x ∷ xs) k 0) p)) (length xs), occurs_count p xs)

fit_at : (cap : ℕ → ℕ) (row some : List ℕ) → fit cap row some ≡ true → (k : ℕ) → k < length some → occurs (get_or some k 0) row ≤ cap (get_or some k 0)
fit_at cap row [] e k l = absurd (omega arith)
fit_at cap row (x ∷ some) e zero l = leb-true _ _ (and_left (leb (occurs x row) (cap x)) _ e)
fit_at cap row (x ∷ some) e (suc k) l = fit_at cap row some (and_right (leb (occurs x row) (cap x)) _ e) k (omega arith)

fit_all : (cap : ℕ → ℕ) (row some : List ℕ) → ((k : ℕ) → k < length some → occurs (get_or some k 0) row ≤ cap (get_or some k 0)) → fit cap row some ≡ true
fit_all cap row [] h = refl
fit_all cap row (x ∷ some) h = both (le-leb _ _ (h 0 (omega arith))) (fit_all cap row some (λ k l. h (suc k) (omega arith)))

-- an admitted row has no place more often than its capacity says
pub admits_fits : (cap : ℕ → ℕ) (row : List ℕ) → admits cap row ≡ true → (p : ℕ) → occurs p row ≤ cap p
admits_fits cap row e p = elim (dec_le (occurs p row) (cap p)) [
  | yes y ↦ y
  | no n ↦ by (count_has (λ k. eqb (get_or row k 0) p) (length row) (omega (arith, occurs_count p row)))
]
  where
    by : (k : ℕ) × (k < length row) × (eqb (get_or row k 0) p ≡ true) → occurs p row ≤ cap p
    by (k, l, q) = subst (λ (x : ℕ). occurs x row ≤ cap x) (eqb-true (get_or row k 0) p q) (fit_at cap row row e k l)

-- the row of the first values of a function
tabulate : (ℕ → ℕ) → ℕ → List ℕ
tabulate f zero = []
tabulate f (suc n) = f 0 ∷ tabulate (λ k. f (suc k)) n

length_tabulate : (f : ℕ → ℕ) (n : ℕ) → length (tabulate f n) ≡ n
unfolding tabulate
length_tabulate f zero = refl
length_tabulate f (suc n) = ap suc (length_tabulate (λ k. f (suc k)) n)

get_d_tabulate : (f : ℕ → ℕ) (n k : ℕ) → k < n → get_or (tabulate f n) k 0 ≡ f k
unfolding tabulate
get_d_tabulate f zero k l = absurd (omega arith)
get_d_tabulate f (suc n) zero l = refl
get_d_tabulate f (suc n) (suc k) l = get_d_tabulate (λ k. f (suc k)) n k (omega arith)

pub row_supports : (P : Problem) → ((i p : ℕ) → i < P.jobs → P.holds i p ≡ true → p < P.width) → (i p : ℕ) → RowSupport P i p → Support P i p
row_supports P b i p r = record {
  at = λ k. get_or r.row k 0;
  full = record {
    held = λ k l e. r.drawn k l;
    within = λ k l e. b k (get_or r.row k 0) l (r.drawn k l);
    fits = λ q l. subst (λ (n : ℕ). count (λ k. eqb (get_or r.row k 0) q) n ≤ P.cap q) r.sized (omega (arith, occurs_count q r.row, admits_fits P.cap r.row r.admitted q));
  };
  takes = r.here;
}

pub supports_row : (P : Problem) (i p : ℕ) → i < P.jobs → Support P i p → RowSupport P i p
supports_row P i p l s = record {
  row = row;
  sized = length_tabulate s.at P.jobs;
  admitted = fit_all P.cap row row (λ k h. few k (subst (λ (n : ℕ). k < n) (length_tabulate s.at P.jobs) h));
  here = at_row i l ∙ s.takes;
  drawn = λ k h. subst (λ (q : ℕ). P.holds k q ≡ true) (sym (at_row k h)) (s.full.held k h refl);
}
  where
    row : List ℕ
    row = tabulate s.at P.jobs

    at_row : (k : ℕ) → k < P.jobs → get_or row k 0 ≡ s.at k
    at_row k h = get_d_tabulate s.at P.jobs k h

    loads : (q : ℕ) → occurs q row ≡ load P all s.at q
    loads q = occurs_count q row ∙ (ap (count (λ k. eqb (get_or row k 0) q)) (length_tabulate s.at P.jobs) ∙ sum_eq _ _ P.jobs (λ k h. ap (λ (x : ℕ). bit (eqb x q)) (at_row k h)))

    few : (k : ℕ) → k < P.jobs → occurs (get_or row k 0) row ≤ P.cap (get_or row k 0)
    few k h = omega (arith, loads (get_or row k 0), s.full.fits (get_or row k 0) (subst (λ (q : ℕ). q < P.width) (sym (at_row k h)) (s.full.within k h refl)))
