-- Settlings of the current lists.
use Rattle.std.proofs.Common.{◌≡◌, ℕ, Bool, List, ◌++◌, length, take, Option, sym, subst}
use Rattle.std.proofs.lemmas.List.{take_at}
use Rattle.places.specs.Families.{Family, family}
use Rattle.settling.specs.Consistency.{Settled, Lowest, KeepsPlacings}
use Rattle.board.specs.Moments.{Reached}

module _ {L R : Type 0} (has : L → ℕ → Bool) (scope : R → List ℕ) (admits : R → List ℕ → Bool) where
  -- m lists in the front of a table that were f, settled as g
  pub reached : (rules : List R) (n m : ℕ) (f g : Family) (lists rest : List L) (answer : Option ℕ) → m ≡ n → length lists ≡ n → f ≡ g
      → Settled scope admits rules f (family has lists) → Lowest scope admits rules m f answer → KeepsPlacings scope admits rules m f (family has lists)
      → Reached has scope admits rules n g (take n (lists ++ rest)) answer
  reached rules n m f g lists rest answer em size ef s l k =
      subst (λ xs. Reached has scope admits rules n g xs answer) (sym (take_at lists rest n size))
      (subst (λ j. Reached has scope admits rules j g lists answer) em
      (subst (λ h. Reached has scope admits rules m h lists answer) ef (record { settled = s; lowest = l; placings = k })))
