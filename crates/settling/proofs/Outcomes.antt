-- What the counts of settled lists say of the jobs.
use Rattle.std.proofs.Common.{◌≡◌, ℕ, zero, suc, ◌+◌, ◌<◌, Bool, true, false, List, length, get_or, Some, None, Option, refl, arith}
use Rattle.theory.specs.Counts.{bit, sum, count}
use Rattle.theory.proofs.Sums.{count_pos}
use Rattle.places.specs.Families.{Family}
use Rattle.settling.specs.Consistency.{Settled, Placed, Lowest}
use Rattle.settling.specs.Waking.{Noted, FirstZero}

-- a positive count has an element
some_counted : (s : ℕ → Bool) (n : ℕ) → 0 < count s n → (q : ℕ) × (s q ≡ true)
unfolding sum
some_counted s zero l = absurd (omega arith)
some_counted s (suc n) l = go (λ h. some_counted s n h) (s n) refl l
  where
    go : (0 < count s n → (q : ℕ) × (s q ≡ true)) → (b : Bool) → s n ≡ b → 0 < count s n + bit b → (q : ℕ) × (s q ≡ true)
    go below true e h = (n, e)
    go below false e h = below (omega arith)

module _ {R : Type 0} (scope : R → List ℕ) (admits : R → List ℕ → Bool) (rules : List R) (limit n : ℕ) (f g : Family) (noted : List ℕ)
    (settled : Settled scope admits rules f g) (within : (j p : ℕ) → g j p ≡ true → p < limit) (size : length noted ≡ n) (counts : Noted n limit g noted) where
  placed_at : (j : ℕ) → j < n → 0 < get_or noted j 0 → Placed scope admits rules f j
  placed_at j l some = let q = some_counted (g j) limit (omega (arith, counts j l)) in (q.0, settled.only j q.0 q.1)

  emptied_at : (j : ℕ) → j < n → get_or noted j 0 ≡ 0 → Placed scope admits rules f j → ⊥
  emptied_at j l none placed =
      let held : g j placed.0 ≡ true = settled.every j placed.0 placed.1 in
      omega (arith, none, counts j l, count_pos (g j) limit placed.0 (within j placed.0 held) held)

  -- the first count that is 0 is that of the lowest job left no place
  pub lowest_answer : (r : Option ℕ) → FirstZero noted r → Lowest scope admits rules n f r
  lowest_answer None h = λ j l. placed_at j l (h j (omega arith))
  lowest_answer (Some j) h = record {
    below = omega (arith, h.0);
    emptied = emptied_at j (omega (arith, h.0)) h.1;
    lowest = λ i l. placed_at i (omega (arith, h.0)) (h.2 i l);
  }
