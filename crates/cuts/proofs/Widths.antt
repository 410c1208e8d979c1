-- Whether a set has a place at or past a width.
use Rattle.std.proofs.Common.{◌≡◌, ℕ, ◌<◌, Bool, true, ◌&&◌, nat_le, is_some, Some, None, Option, sym, ⊎_elim}
use Rattle.std.proofs.lemmas.Bool.{and_from, and_parts, le-leb, leb-true, cases_Bool, both_ways}
use Rattle.theory.proofs.Sums.{some_has, some_at}
use Rattle.places.specs.Sets.{First}
use Rattle.cuts.specs.Checks.{past_width}

pub exceeds_is : (limit w : ℕ) (s : ℕ → Bool) (r : Option ℕ) → ((p : ℕ) → s p ≡ true → p < limit) → First s w r → is_some r ≡ past_width limit w s
exceeds_is limit w s None law f =
    ⊎_elim
    (λ (e : past_width limit w s ≡ true).
    let (p, l, h) = some_at (λ p. nat_le w p && s p) limit e in
    let both = and_parts (nat_le w p) (s p) h in
    absurd (both_ways (s p) (f p (leb-true w p both.0)) both.1))
    (λ e. sym e)
    (cases_Bool (past_width limit w s))
exceeds_is limit w s (Some v) law f = sym (some_has (λ p. nat_le w p && s p) limit v (law v f.1) (and_from (nat_le w v) (s v) (le-leb w v f.0) f.1))
