-- Jobs in equal steps, and the rule that they have different places.
use Rattle.std.specs.Prelude.{◌≡◌, ℕ, zero, suc, ◌+◌, ◌-◌, ◌*◌, Bool, ◌&&◌, List, [], ◌∷◌, nat_le, nat_lt}
use Rattle.theory.specs.Rows.{admits}
use Rattle.rules.specs.declared.progression.Progression.{Progression}

-- first, first + step and so on, m numbers
abbrev pub spread : ℕ → ℕ → ℕ → List ℕ
spread first step zero = []
spread first step (suc m) = first ∷ spread (first + step) step m

-- the jobs of a progression
abbrev pub jobs_of : Progression → List ℕ
jobs_of d = spread d.first d.step d.count

-- there are jobs, which differ and are below n
abbrev pub lawful : Progression → ℕ → Bool
lawful d n = nat_le 1 d.step && (nat_le 1 d.count && nat_lt (d.first + (d.count - 1) * d.step) n)

-- a row with no place twice
abbrev pub no_place_twice : List ℕ → Bool
no_place_twice = admits (λ p. 1)

-- a rule with this scope and these rows is the distinct rule of the progression's jobs
pub record Names (scope : List ℕ) (rows : List ℕ → Bool) (d : Progression) : Type 0 where
  pub jobs : scope ≡ jobs_of d
  pub same : (row : List ℕ) → rows row ≡ no_place_twice row
