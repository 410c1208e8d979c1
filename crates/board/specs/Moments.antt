-- What a board means at a moment: its current lists, and what settlings, trials and group questions say of them.
-- A list kind is given by `has`, a rule kind by `scope`, `admits` and `names`.
use Rattle.std.specs.Prelude.{◌≡◌, ℕ, Bool, ◌⊎◌, List, take, drop, Some, None, Ok, Err, Decides, Option, Result}
use Rattle.refusals.specs.declared.Refusal.{Refusal}
use Rattle.refusals.specs.Codes.{Code, code, says}
use Rattle.places.specs.Families.{Family, family}
use Rattle.cuts.specs.Current.{current}
use Rattle.cuts.specs.declared.cut.Cut.{Cut}
use Rattle.rules.specs.Progressions.{jobs_of}
use Rattle.rules.specs.declared.progression.Progression.{Progression}
use Rattle.distinct.specs.Groups.{GroupTold}
use Rattle.distinct.specs.declared.group.Deficiency.{Deficiency}
use Rattle.settling.specs.Consistency.{Settled, Complete, ShortAt, Lowest, KeepsPlacings}
use Rattle.board.specs.Book.{Held}

-- the current lists: the first opened lists with the counted cuts carried out
abbrev pub current_lists : {L : Type 0} → (L → ℕ → Bool) → Held → List L → List Cut → Family
current_lists has b opened log = current (family has (take b.jobs opened)) (take b.cuts log)

-- what a settling of these lists says where its checks say so: their refusal; 20 with the lowest job that is left no place; or
-- nothing, and then every job is left one
abbrev pub SettleSays : {R : Type 0} → (R → List ℕ) → (R → List ℕ → Bool) → List R → ℕ → Family → Option Code → Option Code → Type 0
SettleSays scope admits rules n f checks None = (checks ≡ None) × Complete scope admits rules n f
SettleSays scope admits rules n f checks (Some c) =
    (checks ≡ Some c) ⊎ ((checks ≡ None) × ((j : ℕ) × (c ≡ code 20 j) × ShortAt scope admits rules n f j))

-- what a trial says where its checks say so: their refusal, or yes exactly where every job is left a place
abbrev pub TrialSays : {R : Type 0} → (R → List ℕ) → (R → List ℕ → Bool) → List R → ℕ → Family → Option Code → Result Bool Refusal → Type 0
TrialSays scope admits rules n f checks (Ok yes_said) = (checks ≡ None) × Decides yes_said (Complete scope admits rules n f)
TrialSays scope admits rules n f checks (Err e) = checks ≡ Some (says e)

-- what a group question says where its checks say so: their refusal, with the table as it was; or the group of the jobs that the rule
-- names, written to the table's front alone
abbrev pub GroupSays : ℕ → Family → Option Progression → Option Code → List ℕ → List ℕ → Result Deficiency Refusal → Type 0
GroupSays limit f named checks before after (Ok d) =
    (checks ≡ None) × ((p : Progression) × (named ≡ Some p) × GroupTold limit f (jobs_of p) before after d.count d.deficiency)
GroupSays limit f named checks before after (Err e) = (checks ≡ Some (says e)) × (after ≡ before)

-- the first n standing lists are the greatest consistent family inside f, every whole placing lies inside them, and the lists past
-- them are as they were
pub record Stands {L R : Type 0} (has : L → ℕ → Bool) (scope : R → List ℕ) (admits : R → List ℕ → Bool) (rules : List R) (n : ℕ) (f : Family) (before after : List L) : Type 0 where
  pub settled : Settled scope admits rules f (family has (take n after))
  pub placings : KeepsPlacings scope admits rules n f (family has (take n after))
  pub rest : drop n after ≡ drop n before

-- what settling f leaves in a table of lists, and its answer
pub record Reached {L R : Type 0} (has : L → ℕ → Bool) (scope : R → List ℕ) (admits : R → List ℕ → Bool) (rules : List R) (n : ℕ) (f : Family) (after : List L) (answer : Option ℕ) : Type 0 where
  pub settled : Settled scope admits rules f (family has after)
  pub lowest : Lowest scope admits rules n f answer
  pub placings : KeepsPlacings scope admits rules n f (family has after)
