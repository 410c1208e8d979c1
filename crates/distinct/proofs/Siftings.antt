-- One more list is sifted.
use Rattle.std.proofs.Common.{◌≡◌, ℕ, ◌+◌, ◌<◌, Bool, true, false, ◌&&◌, ◌≢◌, List, length, get_or, set, sym, ap, ◌∙◌, subst, arith}
use native.Mathlib.Decide.{ℕ_discrete}
use Rattle.places.specs.Families.{Family, family}
use Rattle.places.proofs.Families.{family_at, family_set_same, family_set_other}
use Rattle.distinct.specs.Scopes.{Sifted}

pub sifted_more : {L : Type 0} (has : L → ℕ → Bool) (scope : List ℕ) (i : ℕ) (ok : ℕ → ℕ → Bool) (before : Family) (xs : List L) (j : ℕ) (y d : L) → ((k : ℕ) → k < i → get_or scope k 0 ≢ get_or scope i 0)
    → j ≡ get_or scope i 0 → j < length xs → Sifted scope i ok before (family has xs) → ((q : ℕ) → has y q ≡ (has (get_or xs j d) q && ok i q)) → Sifted scope (i + 1) ok before (family has (set xs j y))
sifted_more has scope i ok before xs j y d apart e l t h = record {
  done = λ k q lk. elim (ℕ_discrete k i) [
    | yes z ↦ subst (λ (x : ℕ). family has (set xs j y) (get_or scope x 0) q ≡ (before (get_or scope x 0) q && ok x q)) (sym z) (here q)
    | no ne ↦ family_set_other has xs j (get_or scope k 0) y q (λ z. apart k (omega arith) (z ∙ e)) ∙ t.done k q (omega arith)
  ];
  others = λ b q c. family_set_other has xs j b y q (λ z. c i (omega arith) (sym e ∙ sym z)) ∙ t.others b q (λ k lk. c k (omega arith));
}
  where
    here : (q : ℕ) → family has (set xs j y) (get_or scope i 0) q ≡ (before (get_or scope i 0) q && ok i q)
    here q =
        ap (λ (x : ℕ). family has (set xs j y) x q) (sym e) ∙ family_set_same has xs j y q l ∙ h q
        ∙ ap (λ (b : Bool). b && ok i q) (sym (family_at has xs j d q l) ∙ ap (λ (x : ℕ). family has xs x q) e ∙ t.others (get_or scope i 0) q apart)

-- an emptied list holds what was held and passes no test
pub emptied : (b : Bool) {c : Bool} → c ≡ false → c ≡ (b && false)
emptied true e = e
emptied false e = e
