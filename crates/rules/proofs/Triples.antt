-- Supports of rules over three jobs.
use Rattle.std.proofs.Common.{◌≡◌, ℕ, zero, suc, ◌<◌, Bool, true, List, [], ◌∷◌, ◌↔◌, IsTrue, slice_index, refl, sym, subst, subst₂, le_of_suc-le-suc, not-suc-le-zero, arith, rules}
use Rattle.std.proofs.lemmas.Bool.{false≢true}
use Rattle.places.specs.Families.{Family}
use Rattle.rules.specs.Narrowing.{Support, Drawn, Scope}
use Rattle.rules.specs.Triples.{triple, apart, Meets}

-- the jobs of three are below n
pub below_three : {n a b c : ℕ} → Scope n (a ∷ b ∷ c ∷ []) → (a < n) × (b < n) × (c < n)
below_three s = (s.below 0 (omega arith), s.below 1 (omega arith), s.below 2 (omega arith))

-- three different jobs below n are a scope
pub apart_scope : (n a b c : ℕ) → apart n a b c ≡ true → Scope n (a ∷ b ∷ c ∷ [])
apart_scope n a b c h = search rules

-- three places that pass a test, each held at its job, with p at position k
pub record Row (test : ℕ → ℕ → ℕ → Bool) (f : Family) (a b c k p : ℕ) : Type 0 where
  pub x : ℕ
  pub y : ℕ
  pub z : ℕ
  pub passes : test x y z ≡ true
  pub at_a : f a x ≡ true
  pub at_b : f b y ≡ true
  pub at_c : f c z ≡ true
  pub here : slice_index (x ∷ y ∷ z ∷ []) k ≡ p

module _ (test : ℕ → ℕ → ℕ → Bool) (f : Family) (a b c : ℕ) where
  drawn_row : {x y z : ℕ} → f a x ≡ true → f b y ≡ true → f c z ≡ true → Drawn (a ∷ b ∷ c ∷ []) f (x ∷ y ∷ z ∷ [])
  drawn_row at_a at_b at_c zero l = at_a
  drawn_row at_a at_b at_c (suc zero) l = at_b
  drawn_row at_a at_b at_c (suc (suc zero)) l = at_c
  drawn_row at_a at_b at_c (suc (suc (suc i))) l = absurd (not-suc-le-zero (le_of_suc-le-suc (le_of_suc-le-suc (le_of_suc-le-suc l))))

  abbrev pub Supports : ℕ → ℕ → Type 0
  Supports k p = Support (a ∷ b ∷ c ∷ []) (triple test) f k p

  row_support : {k p : ℕ} → Row test f a b c k p → Supports k p
  row_support r = record { row = r.x ∷ r.y ∷ r.z ∷ []; sized = refl; admitted = r.passes; here = r.here; drawn = drawn_row r.at_a r.at_b r.at_c }

  row_of : (k p : ℕ) (row : List ℕ) → triple test row ≡ true → slice_index row k ≡ p → Drawn (a ∷ b ∷ c ∷ []) f row → Row test f a b c k p
  row_of k p [] t e d = absurd (false≢true t)
  row_of k p (x ∷ []) t e d = absurd (false≢true t)
  row_of k p (x ∷ y ∷ []) t e d = absurd (false≢true t)
  row_of k p (x ∷ y ∷ z ∷ []) t e d =
      record { x = x; y = y; z = z; passes = t; at_a = d 0 (omega arith); at_b = d 1 (omega arith); at_c = d 2 (omega arith); here = e }
  row_of k p (x ∷ y ∷ z ∷ w ∷ row) t e d = absurd (false≢true t)

  support_row : {k p : ℕ} → Supports k p → Row test f a b c k p
  support_row s = row_of _ _ s.row s.admitted s.here s.drawn

  -- What a search of two lists answers is whether there is a support, at each position.
  module _ {r : Bool} {p : ℕ} where
    pub decides_first : {v w : ℕ → Bool} → v ≡ f b → w ≡ f c → (k : ℕ) → k ≡ 0 → f (slice_index (a ∷ b ∷ c ∷ []) k) p ≡ true → IsTrue r ↔ Meets (λ y z. test p y z) v w → IsTrue r ↔ Supports k p
    decides_first {v} {w} ev ew k e held d =
        let d : IsTrue r ↔ Meets (λ y z. test p y z) (f b) (f c) = subst₂ (λ m n. IsTrue r ↔ Meets (λ y z. test p y z) m n) ev ew d in
        let at : f a p ≡ true = subst (λ n. f (slice_index (a ∷ b ∷ c ∷ []) n) p ≡ true) e held in
        subst (λ n. IsTrue r ↔ Supports n p) (sym e) (
          λ t. let m = d.0 t in row_support (record { x = p; y = m.q; z = m.r; passes = m.passing; at_a = at; at_b = m.in_first; at_c = m.in_second; here = refl }),
          λ s. let o = support_row s in d.1 (record { q = o.y; r = o.z; passing = subst (λ x. test x o.y o.z ≡ true) o.here o.passes; in_first = o.at_b; in_second = o.at_c }),
        )

    pub decides_second : {v w : ℕ → Bool} → v ≡ f a → w ≡ f c → (k : ℕ) → k ≡ 1 → f (slice_index (a ∷ b ∷ c ∷ []) k) p ≡ true → IsTrue r ↔ Meets (λ x z. test x p z) v w → IsTrue r ↔ Supports k p
    decides_second {v} {w} ev ew k e held d =
        let d : IsTrue r ↔ Meets (λ x z. test x p z) (f a) (f c) = subst₂ (λ m n. IsTrue r ↔ Meets (λ x z. test x p z) m n) ev ew d in
        let at : f b p ≡ true = subst (λ n. f (slice_index (a ∷ b ∷ c ∷ []) n) p ≡ true) e held in
        subst (λ n. IsTrue r ↔ Supports n p) (sym e) (
          λ t. let m = d.0 t in row_support (record { x = m.q; y = p; z = m.r; passes = m.passing; at_a = m.in_first; at_b = at; at_c = m.in_second; here = refl }),
          λ s. let o = support_row s in d.1 (record { q = o.x; r = o.z; passing = subst (λ y. test o.x y o.z ≡ true) o.here o.passes; in_first = o.at_a; in_second = o.at_c }),
        )

    pub decides_third : {v w : ℕ → Bool} → v ≡ f a → w ≡ f b → (k : ℕ) → k ≡ 2 → f (slice_index (a ∷ b ∷ c ∷ []) k) p ≡ true → IsTrue r ↔ Meets (λ x y. test x y p) v w → IsTrue r ↔ Supports k p
    decides_third {v} {w} ev ew k e held d =
        let d : IsTrue r ↔ Meets (λ x y. test x y p) (f a) (f b) = subst₂ (λ m n. IsTrue r ↔ Meets (λ x y. test x y p) m n) ev ew d in
        let at : f c p ≡ true = subst (λ n. f (slice_index (a ∷ b ∷ c ∷ []) n) p ≡ true) e held in
        subst (λ n. IsTrue r ↔ Supports n p) (sym e) (
          λ t. let m = d.0 t in row_support (record { x = m.q; y = m.r; z = p; passes = m.passing; at_a = m.in_first; at_b = m.in_second; at_c = at; here = refl }),
          λ s. let o = support_row s in d.1 (record { q = o.x; r = o.y; passing = subst (λ z. test o.x o.y z ≡ true) o.here o.passes; in_first = o.at_a; in_second = o.at_b }),
        )
