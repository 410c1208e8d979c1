-- What a refusal says, and which refusal a call gives: that of the first check that fails.
use Rattle.std.specs.Prelude.{ℕ, ◌+◌, Bool, if◌then◌else◌, List, [], ◌∷◌, Some, None, Ok, Err, Option, Result}
use Rattle.refusals.specs.declared.Refusal.{Refusal}
use Rattle.refusals.specs.declared.Refusal.TheVariants.{JobCount, BedWidth, TableTooShort, PlaceTooLarge, UnlawfulRule, CutOutside, NoSuchJob, NoSuchPlace, Full, NoSuchCut, NoDistinctRule, LineTooShort, Short}

-- a refusal's number, and the list, rule or cut concerned, 0 where there is none
pub record Code : Type 0 where
  pub number : ℕ
  pub index : ℕ

abbrev pub code : ℕ → ℕ → Code
code n i = record { number = n; index = i }

-- what each refusal says
abbrev pub says : Refusal → Code
says JobCount = code 8 0
says BedWidth = code 9 0
says TableTooShort = code 10 0
says (PlaceTooLarge i) = code 11 i
says (UnlawfulRule i) = code 12 i
says (CutOutside i) = code 13 i
says NoSuchJob = code 14 0
says NoSuchPlace = code 15 0
says Full = code 16 0
says NoSuchCut = code 17 0
says NoDistinctRule = code 18 0
says LineTooShort = code 19 0
says (Short i) = code 20 i

-- what a call answered: nothing, or its refusal
abbrev pub refusal_of : {T : Type 0} → Result T Refusal → Option Code
refusal_of (Ok _) = None
refusal_of (Err e) = Some (says e)

-- what the first check finds, or else the second
abbrev pub then_check : Option Code → Option Code → Option Code
then_check (Some x) y = Some x
then_check None y = y

-- a check that names no list, rule or cut
abbrev pub fails_if : Bool → ℕ → Option Code
fails_if b n = if b then Some (code n 0) else None

-- a check of each element: it names the first one at fault, counted from i
abbrev pub first_fault : {X : Type 0} → (X → Bool) → ℕ → ℕ → List X → Option Code
first_fault bad n i [] = None
first_fault bad n i (x ∷ xs) = if bad x then Some (code n i) else first_fault bad n (i + 1) xs
