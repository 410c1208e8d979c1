-- Trimming step by step comes to narrowing.
use Rattle.std.proofs.Common.{◌≡◌, ℕ, zero, suc, ◌+◌, ◌<◌, ◌≤◌, Bool, true, false, not, ◌&&◌, ◌==◌, ◌⊎◌, List, [], ◌∷◌, length, slice_index, slice_index_or, set, sym, refl, ap, ◌∙◌, subst, inl, inr, ⊎_elim, suc-le-suc, le_of_suc-le-suc, not-suc-le-zero, arith}
use Rattle.std.proofs.lemmas.Bool.{cases_eq, ne_eqb, eq-eqb, and_parts, and_from, and_right, both_ways, cases_lt}
use Rattle.std.proofs.Math.Bool.{and-true}
use Rattle.places.specs.Sets.{without}
use Rattle.places.specs.Families.{Family, family, Inside}
use Rattle.places.proofs.Families.{family_at, family_set_same, family_set_other}
use Rattle.rules.specs.Narrowing.{Support, Narrowed, Scope, Misses}
use Rattle.rules.specs.Sweeping.{Trimmed, Swept, SweptAt}

-- no list but that of one job is touched, and that one loses p
pub record Struck (job p : ℕ) (before after : Family) : Type 0 where
  pub same : (j q : ℕ) → (j ≡ job → ⊥) → after j q ≡ before j q
  pub gone : (q : ℕ) → after job q ≡ without (before job) p q

pub struck_gone : {job p : ℕ} {f g : Family} → Struck job p f g → g job p ≡ false
struck_gone {job} {p} {f} s = s.gone p ∙ and_right (f job p) (not (p == p)) (ap not (eq-eqb p p refl))

pub struck_kept : {job p : ℕ} {f g : Family} → Struck job p f g → (q : ℕ) → (q ≡ p → ⊥) → g job q ≡ f job q
struck_kept {job} {p} {f} s q ne = s.gone q ∙ ap (λ b. f job q && not b) (ne_eqb q p ne) ∙ and-true (f job q)

struck_inside : {job p : ℕ} {f g : Family} → Struck job p f g → Inside g f
struck_inside {job} {p} {f} {g} s j q h =
    ⊎_elim
    (λ (e : j ≡ job).
    let held : g job q ≡ true = subst (λ i. g i q ≡ true) e h in
    subst (λ i. f i q ≡ true) (sym e) (and_parts (f job q) (not (q == p)) (sym (s.gone q) ∙ held)).0)
    (λ (n : j ≡ job → ⊥). sym (s.same j q n) ∙ h)
    (cases_eq j job)

module _ {L : Type 0} (has : L → ℕ → Bool) where
  -- a strike in one list of a table
  struck_at : (xs : List L) (j p : ℕ) (d y : L) → j < length xs → ((q : ℕ) → has y q ≡ without (has (slice_index_or xs j d)) p q) → Struck j p (family has xs) (family has (set xs j y))
  struck_at xs j p d y l w = record {
    same = λ i q ne. family_set_other has xs j i y q ne;
    gone = λ q. family_set_same has xs j y q l ∙ w q ∙ ap (λ b. b && not (q == p)) (sym (family_at has xs j d q l));
  }

  pub struck_job : (xs : List L) (j i p : ℕ) (d y : L) → j ≡ i → i < length xs → ((q : ℕ) → has y q ≡ without (has (slice_index_or xs j d)) p q) → Struck i p (family has xs) (family has (set xs j y))
  struck_job xs j i p d y e l w =
      let low : j < length xs = omega arith in
      subst (λ k. Struck k p (family has xs) (family has (set xs j y))) e (struck_at xs j p d y low w)

module _ {scope : List ℕ} {admits : List ℕ → Bool} where
  pub support_mono : {f g : Family} {k p : ℕ} → Inside f g → Support scope admits f k p → Support scope admits g k p
  support_mono inside s = record {
    row = s.row;
    sized = s.sized;
    admitted = s.admitted;
    here = s.here;
    drawn = λ i l. inside _ _ (s.drawn i l);
  }

  pub trimmed_refl : (f : Family) → Trimmed scope admits f f
  trimmed_refl f = record { inside = λ j p h. h; rows = λ row n a d. d; others = λ j p out. refl }

  pub trimmed_trans : {f g h : Family} → Trimmed scope admits f g → Trimmed scope admits g h → Trimmed scope admits f h
  trimmed_trans s t = record {
    inside = λ j p e. s.inside j p (t.inside j p e);
    rows = λ row n a d. t.rows row n a (s.rows row n a d);
    others = λ j p out. t.others j p out ∙ s.others j p out;
  }

  -- a place without a support may go
  pub trimmed_struck : {n k p : ℕ} {f g : Family} → Scope n scope → k < length scope → Struck (slice_index scope k) p f g → (Support scope admits f k p → ⊥) → Trimmed scope admits f g
  trimmed_struck {n} {k} {p} {f} {g} sc l s none = record {
    inside = struck_inside s;
    rows = λ row sized ok drawn i li.
        ⊎_elim
        (λ (e : i ≡ k).
        let missed : slice_index row k ≡ p → ⊥ = λ here. none (record { row = row; sized = sized; admitted = ok; here = here; drawn = drawn }) in
        let kept : g (slice_index scope k) (slice_index row k) ≡ true = s.gone (slice_index row k) ∙ and_from (f (slice_index scope k) (slice_index row k)) (not (slice_index row k == p)) (drawn k l) (ap not (ne_eqb _ _ missed)) in
        subst (λ m. g (slice_index scope m) (slice_index row m) ≡ true) (sym e) kept)
        (λ (ne : i ≡ k → ⊥). s.same _ _ (λ same. ne (sc.differ i k li l same)) ∙ drawn i li)
        (cases_eq i k);
    others = λ j q out. s.same j q (λ e. out k l (sym e));
  }

  pub narrowed : {f g : Family} → Trimmed scope admits f g → ((k : ℕ) → k < length scope → Swept scope admits k f g) → Narrowed scope admits f g
  narrowed {f} {g} t swept = record {
    keeps = λ k p l s. subst (λ q. g (slice_index scope k) q ≡ true) s.here (t.rows s.row s.sized s.admitted s.drawn k l);
    supported = λ k p l h. swept k l p h;
    others = t.others;
  }

  -- one more place is done, and those before it that are not held
  pub swept_more : {f g h : Family} (k from p : ℕ) → Trimmed scope admits f g → Trimmed scope admits g h → SweptAt scope admits k p g h
      → ((q : ℕ) → q < from → SweptAt scope admits k q f g) → ((q : ℕ) → from ≤ q → q < p → g (slice_index scope k) q ≡ false)
      → (q : ℕ) → q < p + 1 → SweptAt scope admits k q f h
  swept_more {f} {g} {h} k from p so_far step done below none q l held =
      let kept : g (slice_index scope k) q ≡ true = step.inside _ q held in
      ⊎_elim
      (λ (low : q < from). below q low kept)
      (λ (high : from ≤ q).
      ⊎_elim
      (λ (e : q ≡ p). support_mono so_far.inside (subst (λ x. SweptAt scope admits k x g h) (sym e) done held))
      (λ (ne : q ≡ p → ⊥). absurd (both_ways _ (none q high (omega arith)) kept))
      (cases_eq q p))
      (cases_lt q from)

abbrev pub Stands : List ℕ → ℕ → Type 0
Stands scope j = (k : ℕ) × (k < length scope) × (slice_index scope k ≡ j)

-- a scope names a job or it does not
pub find : (scope : List ℕ) (j : ℕ) → Stands scope j ⊎ Misses scope j
find [] j = inr (λ k l e. not-suc-le-zero l)
find (i ∷ scope) j =
    ⊎_elim
    (λ (e : i ≡ j). inl (zero, omega arith, e))
    (λ (ne : i ≡ j → ⊥).
    ⊎_elim
    (λ (f : Stands scope j). inl (suc f.0, suc-le-suc f.1, f.2))
    (λ (m : Misses scope j). inr (missed scope ne m))
    (find scope j))
    (cases_eq i j)
  where
    missed : {i j : ℕ} (scope : List ℕ) → (i ≡ j → ⊥) → Misses scope j → Misses (i ∷ scope) j
    missed scope ne m zero l e = ne e
    missed scope ne m (suc k) l e = m k (le_of_suc-le-suc l) e

-- the lists after narrowing lie inside those before
pub narrowed_inside : {scope : List ℕ} {admits : List ℕ → Bool} {f g : Family} → Narrowed scope admits f g → Inside g f
narrowed_inside {scope} {admits} {f} {g} n j p h =
    ⊎_elim
    (λ (found : Stands scope j).
    let s = n.supported found.0 p found.1 (subst (λ i. g i p ≡ true) (sym found.2) h) in
    subst (λ i. f i p ≡ true) found.2 (subst (λ q. f (slice_index scope found.0) q ≡ true) s.here (s.drawn found.0 found.1)))
    (λ out. sym (n.others j p out) ∙ h)
    (find scope j)
