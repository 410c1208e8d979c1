-- Narrowing keeps every consistent family, and what narrowing leaves is consistent; the laws of the greatest consistent family.
use Rattle.std.proofs.Common.{◌≡◌, ℕ, zero, suc, ◌<◌, Bool, true, ◌&&◌, ◌==◌, nat_lt, List, [], ◌∷◌, map, length, get_or, sym, refl, ap, ◌∙◌, subst, ⊎_elim, le_of_suc-le-suc, not-suc-le-zero}
use Rattle.std.specs.List.{ContainsAt as Has, AllByRecursion}
use Rattle.std.proofs.ByRecursion.{all-has, all_has_itself, All-weaker}
use Rattle.std.proofs.lemmas.Bool.{or_left, or_right, eq-eqb, eqb-true, ltb-true, lt-ltb, and_parts, and_from}
use Rattle.theory.specs.Lists.{member}
use Rattle.places.specs.Families.{Family, Inside}
use Rattle.rules.specs.Narrowing.{Narrowed, Misses, Scope}
use Rattle.rules.proofs.Narrowing.{support_mono, Stands, find}
use Rattle.settling.specs.Consistency.{Consistent, AllConsistent, Settled, WholePlacing}

pub member_at : (scope : List ℕ) (k : ℕ) → k < length scope → member scope (get_or scope k 0) ≡ true
member_at [] k l = absurd (not-suc-le-zero l)
member_at (i ∷ scope) zero l = or_left (i == i) _ (eq-eqb i i refl)
member_at (i ∷ scope) (suc k) l = or_right (get_or scope k 0 == i) _ (member_at scope k (le_of_suc-le-suc l))

module _ {scope : List ℕ} {admits : List ℕ → Bool} where
  -- narrowing takes no place from a consistent family
  pub consistent_kept : {f g h : Family} → Narrowed scope admits f g → Consistent scope admits h → Inside h f → Inside h g
  consistent_kept {f} {g} {h} n con inside j p held =
      ⊎_elim
      (λ (s : Stands scope j).
      subst (λ i. g i p ≡ true) s.2
      (n.keeps s.0 p s.1 (support_mono inside (con s.0 p s.1 (subst (λ i. h i p ≡ true) (sym s.2) held)))))
      (λ (m : Misses scope j). n.others j p m ∙ inside j p held)
      (find scope j)

  -- once narrowed, the family is consistent for the rule
  pub narrowed_consistent : {f g : Family} → Narrowed scope admits f g → Consistent scope admits g
  narrowed_consistent {f} {g} n k p l h =
      let s = n.supported k p l h in
      record {
        row = s.row;
        sized = s.sized;
        admitted = s.admitted;
        here = s.here;
        drawn = λ i li. n.keeps i (get_or s.row i 0) li (record { row = s.row; sized = s.sized; admitted = s.admitted; here = refl; drawn = s.drawn });
      }

  -- a rule whose scope has no changed job stays consistent
  pub consistent_elsewhere : {f g : Family} → Consistent scope admits f → ((j : ℕ) → member scope j ≡ true → (p : ℕ) → g j p ≡ f j p) → Consistent scope admits g
  consistent_elsewhere {f} {g} con same k p l h =
      let at : (i : ℕ) → i < length scope → (q : ℕ) → g (get_or scope i 0) q ≡ f (get_or scope i 0) q = λ i li. same (get_or scope i 0) (member_at scope i li) in
      let s = con k p l (sym (at k l p) ∙ h) in
      record {
        row = s.row;
        sized = s.sized;
        admitted = s.admitted;
        here = s.here;
        drawn = λ i li. at i li _ ∙ s.drawn i li;
      }

module _ {R : Type 0} {scope : R → List ℕ} {admits : R → List ℕ → Bool} where
  -- a consistent family inside f that holds every other one is the greatest
  pub settled : {rules : List R} {f g : Family} → Inside g f → AllConsistent scope admits rules g → ((h : Family) → AllConsistent scope admits rules h → Inside h f → Inside h g) → Settled scope admits rules f g
  settled {g = g} inside con keeps = record {
    only = λ j p e. record { family = g; inside = inside; consistent = con; holds = e };
    every = λ j p s. keeps s.family s.consistent s.inside j p s.holds;
  }

  -- a larger family has a larger greatest consistent one
  pub settled_larger : {rules : List R} {f f' g g' : Family} → Inside f' f → Settled scope admits rules f g → Settled scope admits rules f' g' → Inside g' g
  settled_larger inside s s' j p h =
      let w = s'.only j p h in
      s.every j p (record { family = w.family; inside = λ i q e. inside i q (w.inside i q e); consistent = w.consistent; holds = w.holds })

  -- every place of a settled family lies in a consistent family inside it
  pub settled_again : {rules : List R} {f g : Family} → Settled scope admits rules f g → Settled scope admits rules g g
  settled_again {g = g} s = record {
    only = λ j p h.
        let w = s.only j p h in
        record { family = w.family; inside = λ i q e. s.every i q (record { family = w.family; inside = w.inside; consistent = w.consistent; holds = e }); consistent = w.consistent; holds = w.holds };
    every = λ j p w. w.inside j p w.holds;
  }

  -- rules with the same members have the same greatest consistent family
  pub settled_members : {rules others : List R} {f g : Family} → ((r : R) → Has others r → Has rules r) → ((r : R) → Has rules r → Has others r) → Settled scope admits rules f g → Settled scope admits others f g
  settled_members {rules} {others} back forth s = record {
    only = λ j p h. let w = s.only j p h in record { family = w.family; inside = w.inside; consistent = moved rules others back w.family w.consistent; holds = w.holds };
    every = λ j p w. s.every j p (record { family = w.family; inside = w.inside; consistent = moved others rules forth w.family w.consistent; holds = w.holds });
  }
    where
      moved : (xs ys : List R) → ((r : R) → Has ys r → Has xs r) → (h : Family) → AllConsistent scope admits xs h → AllConsistent scope admits ys h
      moved xs ys into h a = All-weaker (Has ys) (λ r. Consistent (scope r) (admits r) h) (λ r m. all-has (λ x. Consistent (scope x) (admits x) h) xs r a (into r m)) ys (all_has_itself ys)

-- the family of a whole placing: each of the first n jobs holds its one place
abbrev pub placing : ℕ → (ℕ → ℕ) → Family
placing n at j p = nat_lt j n && p == at j

placing_place : (n : ℕ) (at : ℕ → ℕ) (j : ℕ) → j < n → placing n at j (at j) ≡ true
placing_place n at j l = and_from (nat_lt j n) (at j == at j) (lt-ltb j n l) (eq-eqb (at j) (at j) refl)

get_d_map : (at : ℕ → ℕ) (xs : List ℕ) (k : ℕ) → k < length xs → get_or (map at xs) k 0 ≡ at (get_or xs k 0)
get_d_map at [] k l = absurd (not-suc-le-zero l)
get_d_map at (x ∷ xs) zero l = refl
get_d_map at (x ∷ xs) (suc k) l = get_d_map at xs k (le_of_suc-le-suc l)

length_mapped : (at : ℕ → ℕ) (xs : List ℕ) → length (map at xs) ≡ length xs
length_mapped at [] = refl
length_mapped at (x ∷ xs) = ap suc (length_mapped at xs)

placing_consistent : (n : ℕ) (at : ℕ → ℕ) (scope : List ℕ) (admits : List ℕ → Bool) → Scope n scope → admits (map at scope) ≡ true → Consistent scope admits (placing n at)
placing_consistent n at scope admits sc ok k p l h =
    let here : p ≡ at (get_or scope k 0) = eqb-true p (at (get_or scope k 0)) (and_parts (nat_lt (get_or scope k 0) n) (p == at (get_or scope k 0)) h).1 in
    record {
      row = map at scope;
      sized = length_mapped at scope;
      admitted = ok;
      here = get_d_map at scope k l ∙ sym here;
      drawn = λ i li. subst (λ q. placing n at (get_or scope i 0) q ≡ true) (sym (get_d_map at scope i li)) (placing_place n at (get_or scope i 0) (sc.below i li));
    }

module _ {R : Type 0} (scope : R → List ℕ) (admits : R → List ℕ → Bool) where
  all_placing : (n : ℕ) (at : ℕ → ℕ) (rules : List R) → AllByRecursion (λ r. Scope n (scope r)) rules → AllByRecursion (λ r. admits r (map at (scope r)) ≡ true) rules → AllConsistent scope admits rules (placing n at)
  all_placing n at [] sc ok = tt
  all_placing n at (r ∷ rules) sc ok = (placing_consistent n at (scope r) (admits r) sc.0 ok.0, all_placing n at rules sc.1 ok.1)

  -- a whole placing lies inside the greatest consistent family
  pub settled_placing : {rules : List R} {f g : Family} (n : ℕ) → AllByRecursion (λ r. Scope n (scope r)) rules → Settled scope admits rules f g → (at : ℕ → ℕ) → WholePlacing scope admits rules n f at → (j : ℕ) → j < n → g j (at j) ≡ true
  settled_placing {rules} {f} n sc s at w j l = s.every j (at j) (record {
    family = placing n at;
    inside = λ i p h.
        let parts = and_parts (nat_lt i n) (p == at i) h in
        subst (λ q. f i q ≡ true) (sym (eqb-true p (at i) parts.1)) (w.drawn i (ltb-true i n parts.0));
    consistent = all_placing n at rules sc w.admitted;
    holds = placing_place n at j l;
  })
