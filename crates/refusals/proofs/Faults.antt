-- A check of each element of a table, from its front on.
use Rattle.std.proofs.Common.{◌≡◌, ℕ, suc, ◌+◌, Bool, true, false, not, if◌then◌else◌, List, [], ◌∷◌, ◌++◌, length, Some, None, Ok, Err, Option, Result, OnOk, refl, ap, ◌∙◌, arith}
use Rattle.std.proofs.lemmas.Iterator.Adapters.{position_from-zero}
use Rattle.std.specs.List.{AllByRecursion, position, position_from}
use Rattle.std.specs.Option.{option_map}
use Rattle.refusals.specs.declared.Refusal.{Refusal}
use Rattle.refusals.specs.Codes.{code, refusal_of, first_fault, then_check}

-- the first element at fault, by its position
fault_from : {X : Type 0} (bad : X → Bool) (n i : ℕ) (xs : List X) → option_map (code n) (position_from bad i xs) ≡ first_fault bad n i xs
fault_from bad n i [] = refl
fault_from bad n i (x ∷ xs) =
    elim (bad x) as (λ b. option_map (code n) (if b then Some i else position_from bad (i + 1) xs) ≡ (if b then Some (code n i) else first_fault bad n (i + 1) xs))
    [ true ↦ refl | false ↦ fault_from bad n (i + 1) xs ]

pub fault_position : {X : Type 0} (bad : X → Bool) (n : ℕ) (xs : List X) (r : Option ℕ) → r ≡ position bad xs → option_map (code n) r ≡ first_fault bad n 0 xs
fault_position bad n xs r at = ap (option_map (code n)) (at ∙ position_from-zero bad xs) ∙ fault_from bad n 0 xs

-- one element more at the end
pub fault_push : {X : Type 0} (bad : X → Bool) (n i : ℕ) (xs : List X) (x : X)
    → first_fault bad n i (xs ++ x ∷ []) ≡ then_check (first_fault bad n i xs) (if bad x then Some (code n (i + length xs)) else None)
fault_push bad n i [] x = ap (λ k. if bad x then Some (code n k) else None) (omega arith)
fault_push bad n i (y ∷ xs) x =
    let more = fault_push bad n (i + 1) xs x ∙ ap (λ k. then_check (first_fault bad n (i + 1) xs) (if bad x then Some (code n k) else None)) (omega arith) in
    elim (bad y) as (λ b. (if b then Some (code n i) else first_fault bad n (i + 1) (xs ++ x ∷ []))
    ≡ then_check (if b then Some (code n i) else first_fault bad n (i + 1) xs) (if bad x then Some (code n (i + suc (length xs))) else None))
    [ true ↦ refl | false ↦ more ]

-- where no element is at fault, all pass
pub all_pass : {X : Type 0} (good : X → Bool) (n i : ℕ) (xs : List X) → None ≡ first_fault (λ x. not (good x)) n i xs → AllByRecursion (λ x. good x ≡ true) xs
all_pass good n i [] e = tt
all_pass good n i (x ∷ xs) e =
    (elim (good x) as (λ b. None ≡ (if not b then Some (code n i) else first_fault (λ y. not (good y)) n (i + 1) xs) → (b ≡ true) × AllByRecursion (λ y. good y ≡ true) xs)
    [ true ↦ λ f. (refl, all_pass good n (i + 1) xs f) | false ↦ λ f. absurd (cc f) ]) e

pub passed : {X : Type 0} (good : X → Bool) (n : ℕ) (xs : List X) (r : Result (Unit {0}) Refusal) → refusal_of r ≡ first_fault (λ x. not (good x)) n 0 xs → OnOk r (AllByRecursion (λ x. good x ≡ true) xs)
passed good n xs (Ok u) e = all_pass good n 0 xs e
passed good n xs (Err _) e = tt
