use Rattle.std.proofs.Common.{◌≡◌, ℕ, true, ◌||◌, drop}
use Rattle.theory.specs.Lists.{member, all_below}
use Rattle.places.specs.Sets.{row_has}
use Rattle.places.proofs.row.row_of.Given as goal

abbrev pub invariant-loop-place : goal.invariant-loop-place
invariant-loop-place l =
    let left = drop l.place-index l.named in
    ((q : ℕ) → (row_has l.row q || member left q) ≡ member l.named q) × (all_below 64 left ≡ true)
