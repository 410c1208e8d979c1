-- Scopes in equal steps.
use Rattle.std.specs.Prelude.{◌≡◌, ℕ, ◌+◌, ◌-◌, ◌*◌, ◌<◌, ◌≤◌, Bool, ◌≢◌, List, length, nat_lt, slice_index}
use Rattle.std.proofs.Common.{arith, ltb-true, lt-ltb}
use Rattle.theory.specs.Assignments.{all}
use Rattle.theory.specs.SingleRows.{single}
use Rattle.theory.proofs.Sums.{count_all}
use Rattle.theory.proofs.Bounds.{at_most_room}
use Rattle.theory.proofs.SingleRows.{row_full}
use Rattle.rules.specs.declared.progression.Progression.{Progression}
use Rattle.rules.specs.Narrowing.{Scope}
use Rattle.rules.specs.Progressions.{jobs_of}
use Rattle.rules.proofs.Progressions.{spread_length, job_listed}

-- different jobs below n are at most n
pub scope_few : (n : ℕ) (jobs : List ℕ) → Scope n jobs → length jobs ≤ n
scope_few n jobs s =
    let m = length jobs in
    let holds : ℕ → ℕ → Bool = λ k p. nat_lt p n in
    let full = row_full m n holds (λ k. slice_index jobs k) (λ i p l h. ltb-true p n h)
    (record { listed = λ i l. lt-ltb (slice_index jobs i) n (s.below i l); distinct = λ i j li lj e. s.differ i j li lj e }) in
    omega (arith, at_most_room (single m n holds) all all (λ k. slice_index jobs k) full, count_all m, count_all n)

module _ (d : Progression) (n : ℕ) (s : Scope n (jobs_of d)) where
  pub count_is : length (jobs_of d) ≡ d.count
  count_is = spread_length d.first d.step d.count

  pub count_few : d.count ≤ n
  count_few = omega (arith, count_is, scope_few n (jobs_of d) s)

  pub job_below : (i : ℕ) → i < d.count → d.first + i * d.step < n
  job_below i l = omega (arith, job_listed d i l, s.below i (omega (arith, count_is)))

  pub last_below : d.first + (d.count - 1) * d.step < n
  last_below = job_below (d.count - 1) (omega (arith, count_is, s.some))

  pub jobs_apart : (k i : ℕ) → k < i → i < d.count → slice_index (jobs_of d) k ≢ slice_index (jobs_of d) i
  jobs_apart k i l h e = omega (arith, l, s.differ k i (omega (arith, count_is)) (omega (arith, count_is)) e)
