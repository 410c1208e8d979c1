-- What a check of each element of a table is told by closures.
use Rattle.std.specs.Prelude.{◌≡◌, ℕ, ◌<◌, Bool}
use Rattle.refusals.specs.declared.Refusal.{Refusal}
use Rattle.refusals.specs.Codes.{code, says}

-- of each element a closure answers whether it is at fault
abbrev pub Tells : {X : Type 0} → (X → Bool → Type 0) → (X → Bool) → Type 0
Tells {X} answers bad = (x : X) (b : Bool) → answers x b → b ≡ bad x

-- at each index below n a closure gives the refusal of this number that names the index
abbrev pub Names : (ℕ → Refusal → Type 0) → ℕ → ℕ → Type 0
Names gives number n = (i : ℕ) (r : Refusal) → i < n → gives i r → says r ≡ code number i
