-- What `find` and the like give over the places that a job can take.
use Rattle.std.proofs.Common.{◌≡◌, ℕ, ◌+◌, ◌<◌, ◌≤◌, Bool, true, false, List, [], ◌∷◌, Option, Some, None, sym, refl, ap, ap₂, ◌∙◌, subst, subst₂, arith, ◌≢◌}
use native.Mathlib.Decide.{ℕ_discrete, dec_lt}
use denote.Param.Members.{Mut}
use denote.Ref.{Bor}
use Rattle.std.specs.Prelude.{⊤, MatchOption, Decides}
use Rattle.std.specs.Fn.{Called, CalledAt}
use Rattle.std.specs.Iterator.{CallableAtEachTurn, ChecksAny, FindsItem, Yields, YieldsThen}
use Rattle.std.specs.List.{FoldsTo}
use Rattle.std.proofs.lemmas.Fn.{serves_by}
use Rattle.places.specs.Sets.{First}
use Rattle.theory.proofs.Sums.{clash}
use Rattle.matching.specs.declared.bipartite.Bipartite as lists
use Rattle.matching.specs.declared.bipartite.JobPlaces.{JobPlaces}
use Rattle.matching.specs.Tables.{at}
use Rattle.matching.specs.Matched.{FirstFree}

-- r is the first held place at or above `from` of which Yes holds, and below w, and No holds of those before it
abbrev pub Finds : (ℕ → Type 0) → (ℕ → Type 0) → ℕ → (ℕ → Bool) → ℕ → Option ℕ → Type 0
Finds Yes No w held from r =
    MatchOption r
    ((q : ℕ) → from ≤ q → held q ≡ true → No q)
    (λ v. (v < w) × (held v ≡ true) × Yes v × ((q : ℕ) → from ≤ q → q < v → held q ≡ true → No q))

module _ (Yes No : ℕ → Type 0) (w : ℕ) (held : ℕ → Bool) (from x : ℕ) (first : First held from (Some x)) (n : No x) where
  passed : (q : ℕ) → from ≤ q → q < x + 1 → held q ≡ true → No q
  passed q low high h = elim (ℕ_discrete q x) [
    | yes e ↦ subst No (sym e) n
    | no ne ↦ absurd (clash h (first.2 q low (omega arith)))
  ]

  further : (P : ℕ → Type 0) → ((q : ℕ) → x + 1 ≤ q → P q → held q ≡ true → No q) → (q : ℕ) → from ≤ q → P q → held q ≡ true → No q
  further P later q low p h = elim (dec_lt q (x + 1)) [ yes b ↦ passed q low b h | no nb ↦ later q (omega arith) p h ]

  -- where the first held place is passed over, the search goes on behind it
  finds_behind : (r : Option ℕ) → Finds Yes No w held (x + 1) r → Finds Yes No w held from r
  finds_behind None later = λ q low h. further (λ q. Unit {0}) (λ q low _ h. later q low h) q low tt h
  finds_behind (Some v) later = (later.0, later.1, later.2, further (λ q. q < v) later.3)

module _ {J : Type 0} (B : lists.Ghosts J) where
  -- the places that the job can take, and what they are below
  abbrev pub held : JobPlaces J B → ℕ → Bool
  held s = B.holds s.jobs.now s.job

  abbrev pub width : JobPlaces J B → ℕ
  width s = B.width s.jobs.now

  -- what a call of `next` does
  abbrev pub steps : JobPlaces J B → Option ℕ → JobPlaces J B → Type 0
  steps s r t = (t.jobs.now ≡ s.jobs.now) × (t.job ≡ s.job) × First (held s) s.from r × MatchOption r ⊤ (λ p. (p < width s) × (t.from ≡ p + 1))

  -- places come of the same jobs
  reached : (xs : List ℕ) (s t : JobPlaces J B) → Yields steps s xs t → t.jobs.now ≡ s.jobs.now
  reached [] s t e = sym (ap (λ (v : JobPlaces J B). v.jobs.now) e)
  reached (x ∷ xs) s t (j, st, more) = reached xs j t more ∙ st.0

  -- a closure that stays as it is may be called at each place that comes, where it may be called at each place below the width
  pub serves : {F : Type 0} {R : F → ℕ → F → Type 0} {Q : F → ℕ → Type 0} {f : F} (s : JobPlaces J B)
      → ((x : ℕ) (q : F) → R f x q → q ≡ f) → ((x : ℕ) → x < width s → Q f x) → CallableAtEachTurn steps R Q s f
  serves {F} {R} {Q} {f} s keeps can =
      serves_by R (λ xs q. q ≡ f) (λ xs q x v i k. keeps x v (subst (λ (y : F). R y x v) i k)) steps Q s f refl
      (λ xs t q x u y st i. subst (λ (y : F). Q y x) (sym i) (can x (subst (λ (o : J). x < B.width o) (reached xs s t y) st.3.0)))

  -- calls p x b q: a call at place x, of a closure that was in the state p, answers b and leaves it in the state q
  module _ {F : Type 0} (calls : F → ℕ → Bool → F → Type 0) (f : F) (Yes No : ℕ → Type 0) where
    -- what a search over these places gives
    abbrev Given : JobPlaces J B → Option ℕ → Type 0
    Given s r = Finds Yes No (width s) (held s) s.from r

    -- the places xs came with the answer false, and then r, with the answer true
    pub finds : (xs : List ℕ) (s u : JobPlaces J B) (j : F) (r : Option ℕ) → YieldsThen steps s xs r u → FoldsTo (λ p x q. calls p x false q) f xs j
        → MatchOption r ⊤ (λ x. (h : F) × calls j x true h) → ((x : ℕ) (q : F) → calls f x true q → Yes x) → ((x : ℕ) (q : F) → calls f x false q → (q ≡ f) × No x)
        → Given s r
    finds [] s u j None (t, e, st) z w hit miss =
        subst (λ (v : JobPlaces J B). Given v None) (sym e) (λ q low h. absurd (clash h (st.2 q low)))
    finds [] s u j (Some v) (t, e, st) z (h, k) hit miss =
        subst (λ (v' : JobPlaces J B). Given v' (Some v)) (sym e)
        (st.3.0, st.2.1, hit v h (subst (λ (a : F). calls a v true h) (sym z) k), λ q low b held. absurd (clash held (st.2.2 q low b)))
    finds (x ∷ xs) s u j r (t, (i, st, more), last) (m, k, z) w hit miss =
        let (kept, n) = miss x m k in
        let later : Given i r = finds xs i u j r (t, more, last) (subst (λ (a : F). FoldsTo (λ p x q. calls p x false q) a xs j) kept z) w hit miss in
        let same : Finds Yes No (width s) (held s) (x + 1) r =
        subst (λ (b : ℕ). Finds Yes No (width s) (held s) b r) st.3.1
        (subst₂ (λ (o : J) (k : ℕ). Finds Yes No (B.width o) (B.holds o k) i.from r) st.0 st.1 later) in
        finds_behind Yes No (width s) (held s) s.from x st.2 n r same

  -- what `find` gives
  pub found : {F : Type 0} (g : Mut F (Bor ℕ × Unit {0}) Bool) (f : F) (Yes No : ℕ → Type 0)
      → ((x : ℕ) (q : F) → CalledAt g f x true q → Yes x) → ((x : ℕ) (q : F) → CalledAt g f x false q → (q ≡ f) × No x)
      → (s u : JobPlaces J B) (r : Option ℕ) → FindsItem steps g s f r u → Finds Yes No (width s) (held s) s.from r
  found g f Yes No hit miss s u r (xs, j, ran, calls, last) = finds (λ p x b q. CalledAt g p x b q) f Yes No xs s u j r ran calls last hit miss

  -- what `any` tells: whether Yes holds of some place that the job can take
  pub any_decides : {F : Type 0} (g : Mut F (ℕ × Unit {0}) Bool) (f : F) (Yes : ℕ → Type 0) (o : J) (job : ℕ)
      → ((x : ℕ) (q : F) → Called g f (x, tt) true q → Yes x) → ((x : ℕ) (q : F) → Called g f (x, tt) false q → (q ≡ f) × (Yes x → ⊥))
      → (s u : JobPlaces J B) (r : Bool) → ChecksAny steps g s f r u → s.jobs.now ≡ o → s.job ≡ job → s.from ≡ 0
      → Decides r ((p : ℕ) × (p < B.width o) × (B.holds o job p ≡ true) × Yes p)
  any_decides g f Yes o job hit miss s u r (xs, None, j, ran, calls, e) ej ek z =
      let none = finds (λ p x b q. Called g p (x, tt) b q) f Yes (λ p. Yes p → ⊥) xs s u j None ran calls tt hit miss in
      (λ t. absurd (clash t e), λ (p, l, h, y). absurd (none p (omega arith) (ap₂ (λ (o : J) (k : ℕ). B.holds o k p) ej ek ∙ h) y))
  any_decides g f Yes o job hit miss s u r (xs, Some v, j, ran, calls, (e, last)) ej ek z =
      let some = finds (λ p x b q. Called g p (x, tt) b q) f Yes (λ p. Yes p → ⊥) xs s u j (Some v) ran calls last hit miss in
      (λ t. (v, subst (λ (o : J). v < B.width o) ej some.0, sym (ap₂ (λ (o : J) (k : ℕ). B.holds o k v) ej ek) ∙ some.1, some.2), λ p. e)

  -- over all places of a job: the first that no job has
  pub first_free : (holders : List ℕ) (s : JobPlaces J B) (o : J) (job : ℕ) (r : Option ℕ) → s.jobs.now ≡ o → s.job ≡ job → s.from ≡ 0
      → Finds (λ p. at holders p ≡ 65535) (λ p. at holders p ≢ 65535) (width s) (held s) s.from r → FirstFree (B.width o) (B.holds o job) holders r
  first_free holders s o job None ej ek z f = λ p h. f p (omega arith) (ap₂ (λ (o : J) (k : ℕ). B.holds o k p) ej ek ∙ h)
  first_free holders s o job (Some v) ej ek z f =
      let same : (p : ℕ) → B.holds s.jobs.now s.job p ≡ B.holds o job p = λ p. ap₂ (λ (o : J) (k : ℕ). B.holds o k p) ej ek in
      (subst (λ (o : J). v < B.width o) ej f.0, sym (same v) ∙ f.1, f.2, λ p b h. f.3 p (omega arith) b (same p ∙ h))
