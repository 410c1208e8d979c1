-- Reads and writes of a table of lists, as its family sees them.
use Rattle.std.proofs.Common.{◌≡◌, ℕ, zero, suc, ◌<◌, ◌≤◌, Bool, true, false, ◌≢◌, List, [], ◌∷◌, length, get_or, set, IfSome, Some, None, Option, sym, refl, ap, ◌∙◌, subst, le_of_suc-le-suc, not-suc-le-zero, arith}
use mathlib.Core.Path.{fun_ext}
use Rattle.places.specs.Sets.{First}
use Rattle.std.proofs.lemmas.Bool.{false≢true}
use Rattle.places.specs.Families.{family}

module _ {L : Type 0} (has : L → ℕ → Bool) where
  pub family_at : (xs : List L) (j : ℕ) (d : L) (p : ℕ) → j < length xs → family has xs j p ≡ has (get_or xs j d) p
  family_at [] j d p h = absurd (not-suc-le-zero h)
  family_at (x ∷ xs) zero d p h = refl
  family_at (x ∷ xs) (suc j) d p h = family_at xs j d p (le_of_suc-le-suc h)

  -- the same at a job that has another name
  pub family_job : (xs : List L) (j i p : ℕ) (d : L) → j ≡ i → i < length xs → family has xs i p ≡ has (get_or xs j d) p
  family_job xs j i p d e l = family_at xs i d p l ∙ ap (λ k. has (get_or xs k d) p) (sym e)

  -- an element that was read
  pub family_read : (xs : List L) (j : ℕ) (x : L) → j < length xs → x ≡ get_or xs j x → (p : ℕ) → family has xs j p ≡ has x p
  family_read xs j x h e p = family_at xs j x p h ∙ ap (λ y. has y p) (sym e)

  -- the list of one job, as a set
  pub family_list : (xs : List L) (j : ℕ) (x : L) → j < length xs → x ≡ get_or xs j x → has x ≡ family has xs j
  family_list xs j x l e = λ i p. sym (family_read xs j x l e p) i

  pub family_set_same : (xs : List L) (j : ℕ) (x : L) (p : ℕ) → j < length xs → family has (set xs j x) j p ≡ has x p
  family_set_same [] j x p h = absurd (not-suc-le-zero h)
  family_set_same (y ∷ xs) zero x p h = refl
  family_set_same (y ∷ xs) (suc j) x p h = family_set_same xs j x p (le_of_suc-le-suc h)

  pub family_set_other : (xs : List L) (j i : ℕ) (x : L) (p : ℕ) → i ≢ j → family has (set xs j x) i p ≡ family has xs i p
  family_set_other [] j i x p h = refl
  family_set_other (y ∷ xs) zero zero x p h = absurd (h refl)
  family_set_other (y ∷ xs) zero (suc i) x p h = refl
  family_set_other (y ∷ xs) (suc j) zero x p h = refl
  family_set_other (y ∷ xs) (suc j) (suc i) x p h = family_set_other xs j i x p (λ e. h (ap suc e))

  -- what holds of every place of every list holds of every place of the family
  pub family_all : (P : ℕ → Type 0) → ((x : L) (p : ℕ) → has x p ≡ true → P p) → (xs : List L) (j p : ℕ) → family has xs j p ≡ true → P p
  family_all P law [] j p h = absurd (false≢true h)
  family_all P law (x ∷ xs) zero p h = law x p h
  family_all P law (x ∷ xs) (suc j) p h = family_all P law xs j p h

  -- a question to the list that was read
  pub family_answer : (xs : List L) (j i p : ℕ) (d : L) (r : Bool) → j < length xs → j ≡ i → r ≡ has (get_or xs j d) p → r ≡ family has xs i p
  family_answer xs j i p d r l q h = h ∙ sym (family_at xs j d p l) ∙ ap (λ k. family has xs k p) q

  pub family_first : (xs : List L) (j i p : ℕ) (d : L) (r : Option ℕ) → j < length xs → j ≡ i → First (has (get_or xs j d)) p r → First (family has xs i) p r
  family_first xs j i p d r l q h = subst (λ (s : ℕ → Bool). First s p r) (fun_ext (λ k. sym (family_at xs j d k l)) ∙ ap (family has xs) q) h

  -- a job past the table
  pub family_past : (xs : List L) (j p : ℕ) → length xs ≤ j → family has xs j p ≡ false
  family_past [] j p h = refl
  family_past (x ∷ xs) zero p h = absurd (omega arith)
  family_past (x ∷ xs) (suc j) p h = family_past xs j p (omega arith)

-- the place found is below the limit
pub first_within : (s : ℕ → Bool) (limit from : ℕ) (r : Option ℕ) → ((p : ℕ) → s p ≡ true → p < limit) → First s from r → IfSome r (λ p. p < limit)
first_within s limit from None law h = tt
first_within s limit from (Some v) law h = law v h.1
