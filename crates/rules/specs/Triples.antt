-- Rules over three jobs.
use Rattle.std.specs.Prelude.{◌≡◌, ℕ, ◌+◌, ◌-◌, Bool, true, false, not, ◌&&◌, List, [], ◌∷◌, ◌==◌, nat_lt}
use Rattle.rules.specs.declared.triple.Triple.{Triple}

-- rows of three places that pass a test
abbrev pub triple : (ℕ → ℕ → ℕ → Bool) → List ℕ → Bool
triple test [] = false
triple test (a ∷ []) = false
triple test (a ∷ b ∷ []) = false
triple test (a ∷ b ∷ c ∷ []) = test a b c
triple test (a ∷ b ∷ c ∷ d ∷ rest) = false

-- the jobs of a rule over three
abbrev pub three_jobs : {K : Type 0} → Triple K → List ℕ
three_jobs t = t.a ∷ (t.b ∷ (t.c ∷ []))

-- a + b = c
abbrev pub is_sum : ℕ → ℕ → ℕ → Bool
is_sum a b c = a + b == c

-- |a - b| = c, where a difference stops at 0
abbrev pub is_gap : ℕ → ℕ → ℕ → Bool
is_gap a b c = (a - b) + (b - a) == c

-- three different jobs below n
abbrev pub apart : ℕ → ℕ → ℕ → ℕ → Bool
apart n a b c = nat_lt a n && (nat_lt b n && (nat_lt c n && (not (a == b) && (not (a == c) && not (b == c)))))

-- some places q of the first set and r of the second pass a test
pub record Meets (passes : ℕ → ℕ → Bool) (first second : ℕ → Bool) : Type 0 where
  pub q : ℕ
  pub r : ℕ
  pub passing : passes q r ≡ true
  pub in_first : first q ≡ true
  pub in_second : second r ≡ true
