-- The group that a largest matching tells.
use Rattle.std.proofs.Common.{◌≡◌, ℕ, ◌≤◌, not, List, length, get_or, take, drop, sym, ap, ◌∙◌, subst, subst₂, arith}
use lib.Seq.{take-length}
use Rattle.theory.specs.Counts.{count}
use Rattle.theory.specs.Assignments.{Group}
use Rattle.theory.specs.Lists.{member}
use Rattle.theory.specs.SingleRows.{single}
use Rattle.theory.proofs.Groups.{stuck_group, group_same}
use Rattle.matching.specs.Tables.{at, filled}
use Rattle.matching.specs.Matched.{Stalled}
use Rattle.places.specs.Families.{Family}
use Rattle.rules.specs.Narrowing.{Scope}
use Rattle.distinct.specs.Groups.{problem, picked, GroupIs, GroupTold}
use Rattle.distinct.specs.Scopes.{scoped, chosen}
use Rattle.distinct.proofs.Choosing.{chosen_member, chosen_picked}

module _ (n m w : ℕ) (fam : Family) (scope places holders parents : List ℕ) (s : Scope n scope) (lm : length scope ≡ m) (t : Stalled m w (scoped scope fam) places holders parents) where
  -- the jobs that those without a place reach, in order
  abbrev pub marked : List ℕ
  marked = chosen scope (filled parents) (length scope)

  group_is : GroupIs w fam scope marked (count (λ k. not (filled places k)) m)
  group_is = record {
    group = group_same (problem w fam scope) (filled parents) (λ k. member marked (get_or scope k 0)) (count (λ k. not (filled places k)) m) (chosen_member scope (filled parents) n s) found;
    listed = chosen_picked scope (filled parents) (member marked) (length scope) (omega arith) (chosen_member scope (filled parents) n s) ∙ ap (picked (member marked)) (take-length scope);
  }
    where
      found : Group (problem w fam scope) (filled parents) (count (λ k. not (filled places k)) m)
      found = subst (λ (x : ℕ). Group (single x w (scoped scope fam)) (filled parents) (count (λ k. not (filled places k)) m)) (sym lm)
          (stuck_group (single m w (scoped scope fam)) (filled places) (at places) (filled parents) t.matched.valid t.stuck t.reached)

  pub told : (before after : List ℕ) (len d : ℕ) → length places ≡ m → take len after ≡ chosen scope (filled parents) m → drop len after ≡ drop len before → len ≤ length after
      → d ≡ count (λ k. not (filled places k)) (length places) → GroupTold w fam scope before after len d
  told before after len d lp front rest few e = record {
    group = subst₂ (λ (xs : List ℕ) (x : ℕ). GroupIs w fam scope xs x) (ap (chosen scope (filled parents)) lm ∙ sym front) (sym (e ∙ ap (count (λ k. not (filled places k))) lp)) group_is;
    within = few;
    rest = rest;
  }
