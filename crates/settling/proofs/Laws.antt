-- The theorems on settling.
use Rattle.std.proofs.Common.{◌≡◌, ℕ, zero, suc, ◌+◌, ◌<◌, Bool, true, false, ◌&&◌, ◌||◌, ◌==◌, ◌⊎◌, List, [], ◌∷◌, length, get_or, sym, refl, ap, ◌∙◌, subst, inl, inr, ⊎_elim, le_of_suc-le-suc, not-suc-le-zero, arith}
use Rattle.std.proofs.lemmas.Bool.{eqb-true, and_parts, both_ways, false≢true}
use Rattle.theory.specs.Lists.{member}
use Rattle.theory.proofs.Sums.{or_cases}
use Rattle.places.specs.Families.{Family}
use Rattle.rules.specs.Narrowing.{Support, Drawn}
use Rattle.rules.specs.Progressions.{no_place_twice}
use Rattle.rules.specs.Triples.{triple, is_sum}
use Rattle.settling.specs.Consistency.{Consistent}
use Rattle.settling.specs.Theorems.{Constraint, OrderFree, SettledStays, CutsRestoreNothing, PlacingsStay, MissingUnused, three_lists, ConverseFails}
use Rattle.settling.proofs.Consistency.{settled, settled_larger, settled_again, settled_members, settled_placing}

same_bool : (s t : Bool) → (s ≡ true → t ≡ true) → (t ≡ true → s ≡ true) → s ≡ t
same_bool true t f g = sym (f refl)
same_bool false true f g = g refl
same_bool false false f g = refl

pub order_free : OrderFree
order_free rules others same f g h s t j p =
    let u = settled_members (λ r. (same r).1) (λ r. (same r).0) s in
    same_bool (g j p) (h j p) (settled_larger (λ i q e. e) t u j p) (settled_larger (λ i q e. e) u t j p)

pub settled_stays : SettledStays
settled_stays rules f g h s t j p =
    let u = settled_again s in
    same_bool (h j p) (g j p) (settled_larger (λ i q e. e) u t j p) (settled_larger (λ i q e. e) t u j p)

pub cuts_restore_nothing : CutsRestoreNothing
cuts_restore_nothing rules before cut left left_cut inside s t = settled_larger inside s t

pub placings_stay : PlacingsStay
placings_stay rules n f g scopes s at w j l = settled_placing (λ (c : Constraint). c.scope) (λ (c : Constraint). c.rows) n scopes s at w j l

pub missing_unused : MissingUnused
missing_unused rules n f g scopes s j p l missing at w e = both_ways (g j p) missing (subst (λ q. g j q ≡ true) e (placings_stay rules n f g scopes s at w j l))

-- ---- the example

-- a row against the lists, as a test
drawn_test : Family → List ℕ → List ℕ → Bool
drawn_test f [] [] = true
drawn_test f [] (p ∷ row) = false
drawn_test f (j ∷ scope) [] = false
drawn_test f (j ∷ scope) (p ∷ row) = f j p && drawn_test f scope row

drawn_from : (f : Family) (scope row : List ℕ) → drawn_test f scope row ≡ true → Drawn scope f row
unfolding drawn_test
drawn_from f [] [] t i l = absurd (not-suc-le-zero l)
drawn_from f [] (p ∷ row) t i l = absurd (not-suc-le-zero l)
drawn_from f (j ∷ scope) [] t i l = absurd (false≢true t)
drawn_from f (j ∷ scope) (p ∷ row) t zero l = (and_parts (f j p) (drawn_test f scope row) t).0
drawn_from f (j ∷ scope) (p ∷ row) t (suc i) l = drawn_from f scope row (and_parts (f j p) (drawn_test f scope row) t).1 i (le_of_suc-le-suc l)

one_of_two : (p : ℕ) → member (0 ∷ 1 ∷ []) p ≡ true → (p ≡ 0) ⊎ (p ≡ 1)
one_of_two p h =
    ⊎_elim (λ e. inl (eqb-true p 0 e)) (λ t. ⊎_elim (λ e. inr (eqb-true p 1 e)) (λ f. absurd (false≢true f)) (or_cases (p == 1) false t)) (or_cases (p == 0) (p == 1 || false) h)

one_of_three : (p : ℕ) → member (0 ∷ 1 ∷ 2 ∷ []) p ≡ true → (p ≡ 0) ⊎ ((p ≡ 1) ⊎ (p ≡ 2))
one_of_three p h =
    ⊎_elim
    (λ e. inl (eqb-true p 0 e))
    (λ t. ⊎_elim (λ e. inr (inl (eqb-true p 1 e))) (λ u. ⊎_elim (λ e. inr (inr (eqb-true p 2 e))) (λ f. absurd (false≢true f)) (or_cases (p == 2) false u)) (or_cases (p == 1) (p == 2 || false) t))
    (or_cases (p == 0) (p == 1 || (p == 2 || false)) h)

-- a support that a row written out gives
support : (scope : List ℕ) (admits : List ℕ → Bool) (k p : ℕ) (row : List ℕ) → length row ≡ length scope → admits row ≡ true → get_or row k 0 ≡ p → drawn_test three_lists scope row ≡ true → Support scope admits three_lists k p
support scope admits k p row sized ok here drawn = record { row = row; sized = sized; admitted = ok; here = here; drawn = drawn_from three_lists scope row drawn }

-- the places of the two jobs
differ : Consistent (0 ∷ 1 ∷ []) no_place_twice three_lists
unfolding drawn_test
differ zero p l h =
    ⊎_elim
    (λ (e : p ≡ 0). support (0 ∷ 1 ∷ []) no_place_twice 0 p (0 ∷ 1 ∷ []) refl refl (sym e) refl)
    (λ (e : p ≡ 1). support (0 ∷ 1 ∷ []) no_place_twice 0 p (1 ∷ 0 ∷ []) refl refl (sym e) refl)
    (one_of_two p h)
differ (suc zero) p l h =
    ⊎_elim
    (λ (e : p ≡ 0). support (0 ∷ 1 ∷ []) no_place_twice 1 p (1 ∷ 0 ∷ []) refl refl (sym e) refl)
    (λ (e : p ≡ 1). support (0 ∷ 1 ∷ []) no_place_twice 1 p (0 ∷ 1 ∷ []) refl refl (sym e) refl)
    (one_of_two p h)
differ (suc (suc k)) p l h = absurd (omega arith)

add_up : Consistent (0 ∷ 1 ∷ 2 ∷ []) (triple is_sum) three_lists
unfolding drawn_test
add_up zero p l h =
    ⊎_elim
    (λ (e : p ≡ 0). support (0 ∷ 1 ∷ 2 ∷ []) (triple is_sum) 0 p (0 ∷ 0 ∷ 0 ∷ []) refl refl (sym e) refl)
    (λ (e : p ≡ 1). support (0 ∷ 1 ∷ 2 ∷ []) (triple is_sum) 0 p (1 ∷ 0 ∷ 1 ∷ []) refl refl (sym e) refl)
    (one_of_two p h)
add_up (suc zero) p l h =
    ⊎_elim
    (λ (e : p ≡ 0). support (0 ∷ 1 ∷ 2 ∷ []) (triple is_sum) 1 p (0 ∷ 0 ∷ 0 ∷ []) refl refl (sym e) refl)
    (λ (e : p ≡ 1). support (0 ∷ 1 ∷ 2 ∷ []) (triple is_sum) 1 p (0 ∷ 1 ∷ 1 ∷ []) refl refl (sym e) refl)
    (one_of_two p h)
add_up (suc (suc zero)) p l h =
    ⊎_elim
    (λ (e : p ≡ 0). support (0 ∷ 1 ∷ 2 ∷ []) (triple is_sum) 2 p (0 ∷ 0 ∷ 0 ∷ []) refl refl (sym e) refl)
    (⊎_elim
    (λ (e : p ≡ 1). support (0 ∷ 1 ∷ 2 ∷ []) (triple is_sum) 2 p (0 ∷ 1 ∷ 1 ∷ []) refl refl (sym e) refl)
    (λ (e : p ≡ 2). support (0 ∷ 1 ∷ 2 ∷ []) (triple is_sum) 2 p (1 ∷ 1 ∷ 2 ∷ []) refl refl (sym e) refl))
    (one_of_three p h)
add_up (suc (suc (suc k))) p l h = absurd (omega arith)

-- two different places among 0 and 1 add up to 1
sum_one : (x y : ℕ) → (x ≡ 0) ⊎ (x ≡ 1) → (y ≡ 0) ⊎ (y ≡ 1) → no_place_twice (x ∷ y ∷ []) ≡ true → x + y ≡ 1
sum_one x y (inl a) (inl b) h = absurd (false≢true (sym (ap (λ u. no_place_twice (u ∷ y ∷ [])) a ∙ ap (λ v. no_place_twice (0 ∷ v ∷ [])) b) ∙ h))
sum_one x y (inl a) (inr b) h = omega arith
sum_one x y (inr a) (inl b) h = omega arith
sum_one x y (inr a) (inr b) h = absurd (false≢true (sym (ap (λ u. no_place_twice (u ∷ y ∷ [])) a ∙ ap (λ v. no_place_twice (1 ∷ v ∷ [])) b) ∙ h))

abbrev a_placing : ℕ → ℕ
a_placing zero = 0
a_placing (suc j) = 1

pub converse_fails : ConverseFails
converse_fails = record {
  greatest = settled (λ j p h. h) (differ, (add_up, tt)) (λ h con inside. inside);
  held = (refl, (refl, (refl, tt)));
  some = (a_placing, record { drawn = placed; admitted = (refl, (refl, tt)) });
  only = λ at w.
      let total : at 0 + at 1 ≡ 1 = sum_one (at 0) (at 1) (one_of_two (at 0) (w.drawn 0 (omega arith))) (one_of_two (at 1) (w.drawn 1 (omega arith))) w.admitted.0 in
      sym (eqb-true (at 0 + at 1) (at 2) w.admitted.1.0) ∙ total;
}
  where
    placed : (j : ℕ) → j < 3 → three_lists j (a_placing j) ≡ true
    placed zero l = refl
    placed (suc zero) l = refl
    placed (suc (suc zero)) l = refl
    placed (suc (suc (suc j))) l = absurd (omega arith)
