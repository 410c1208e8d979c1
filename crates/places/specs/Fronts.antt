-- The front part of stored numbers rises, and what it holds lies below 2,048.
use Rattle.std.specs.Prelude.{◌≡◌, ℕ, ◌+◌, ◌<◌, ◌≤◌, true, List, [], ◌∷◌, ◌==◌, nat_le, nat_lt, refl}
use Rattle.std.proofs.Common.{⊎_elim, arith}
use Rattle.std.proofs.lemmas.Bool.{and_parts, and_from, or_cases, leb-true, ltb-true, eqb-true, false≢true, cond_both}
use Rattle.theory.specs.Lists.{member}
use Rattle.places.specs.Needles.{passes, rises, front_part}

pub passes_parts : (low x : ℕ) → passes low x ≡ true → (low ≤ x) × (x < 2048)
passes_parts low x h =
    let p = and_parts (nat_le low x) (nat_lt x 2048) h in
    (leb-true low x p.0, ltb-true x 2048 p.1)

pub front_rises : (low : ℕ) (xs : List ℕ) → rises low (front_part low xs) ≡ true
front_rises low [] = refl
front_rises low (x ∷ xs) =
    cond_both (passes low x) (x ∷ front_part (x + 1) xs) [] (λ ys. rises low ys ≡ true)
    (λ e. and_from (passes low x) (rises (x + 1) (front_part (x + 1) xs)) e (front_rises (x + 1) xs))
    (λ e. refl)

pub member_within : (low : ℕ) (ys : List ℕ) (q : ℕ) → rises low ys ≡ true → member ys q ≡ true → (low ≤ q) × (q < 2048)
member_within low [] q r h = absurd (false≢true h)
member_within low (x ∷ ys) q r h =
    let p = and_parts (passes low x) (rises (x + 1) ys) r in
    let b = passes_parts low x p.0 in
    ⊎_elim (λ e. let same : q ≡ x = eqb-true q x e in (omega (arith, b.0), omega (arith, b.1)))
    (λ m. let t = member_within (x + 1) ys q p.1 m in (omega (arith, t.0, b.0), t.1))
    (or_cases (q == x) (member ys q) h)
