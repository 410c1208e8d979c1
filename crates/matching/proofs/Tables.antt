-- Tables as functions, in which 65535 stands for no number.
use Rattle.std.proofs.Common.{◌≡◌, ℕ, ◌<◌, ◌≤◌, Bool, true, false, if◌then◌else◌, not, ◌||◌, nat_eq, ◌≢◌, List, length, slice_set, replicate, sym, refl, ap, ◌∙◌, subst, get_or-set_other, get_or-set_same, eq-eqb, ne_eqb}
use mathlib.Core.Path.{fun_ext}
use native.Mathlib.Decide.{ℕ_discrete}
use lib.ListN.{length-replicate, get_or-replicate}
use Rattle.theory.specs.Assignments.{put, with}
use Rattle.theory.proofs.Sums.{clash}
use Rattle.theory.proofs.Moves.{put_same, put_other, with_same, with_other}
use Rattle.matching.specs.declared.bipartite.Bipartite as lists
use Rattle.matching.specs.Tables.{at, filled}
use Rattle.matching.specs.declared.matching.MatchingMut.{MatchingMut}
use Rattle.matching.specs.Matched.{Matched}
use Rattle.matching.specs.MatchingMut.{IsMatching, SameTables}

-- a write to a table is one to its function
pub at_set : (xs : List ℕ) (c q : ℕ) → c < length xs → at (slice_set xs c q) ≡ put (at xs) c q
at_set xs c q l = fun_ext (λ k. elim (ℕ_discrete k c) [
  | yes e ↦ subst (λ (x : ℕ). at (slice_set xs c q) x ≡ put (at xs) c q x) (sym e) (get_or-set_same xs c q 0 l ∙ sym (put_same (at xs) c q))
  | no ne ↦ get_or-set_other xs c k q 0 ne ∙ sym (put_other (at xs) c q k ne)
])

pub filled_some : (xs : List ℕ) (k : ℕ) → filled xs k ≡ true → at xs k ≢ 65535
filled_some xs k e q = clash e (ap not (eq-eqb (at xs k) 65535 q))

pub some_filled : (xs : List ℕ) (k : ℕ) → at xs k ≢ 65535 → filled xs k ≡ true
some_filled xs k ne = ap not (ne_eqb (at xs k) 65535 ne)

pub none_filled : (xs : List ℕ) (k : ℕ) → at xs k ≡ 65535 → filled xs k ≡ false
none_filled xs k e = ap not (eq-eqb (at xs k) 65535 e)

filled_cond : (b : Bool) (v x : ℕ) → v ≢ 65535 → not (nat_eq (if b then v else x) 65535) ≡ (b || not (nat_eq x 65535))
filled_cond true v x ne = ap not (ne_eqb v 65535 ne)
filled_cond false v x ne = refl

pub filled_set : (xs : List ℕ) (c v : ℕ) → c < length xs → v ≢ 65535 → filled (slice_set xs c v) ≡ with (filled xs) c
filled_set xs c v l ne = ap {B = ℕ → Bool} (λ (h : ℕ → ℕ) (a : ℕ). not (nat_eq (h a) 65535)) (at_set xs c v l) ∙ fun_ext (λ a. filled_cond (nat_eq a c) v (at xs a) ne)

pub with_again : (A : ℕ → Bool) (w : ℕ) → A w ≡ true → with A w ≡ A
with_again A w e = fun_ext (λ a. elim (ℕ_discrete a w) [
  | yes q ↦ subst (λ (x : ℕ). with A w x ≡ A x) (sym q) (with_same A w ∙ sym e)
  | no ne ↦ with_other A w a ne
])

-- a table that was filled with one number
pub filled_with : {v : ℕ} (xs : List ℕ) (n : ℕ) → xs ≡ replicate n v → (k : ℕ) → k < length xs → at xs k ≡ v
filled_with {v} xs n e k l =
    let short : k < n = subst (λ (m : ℕ). k < m) (ap length e ∙ length-replicate n v) l in
    ap (λ (ys : List ℕ). at ys k) e ∙ get_or-replicate n k v 0 short

-- tables that are handed on stay the same
pub unchanged : {J : Type 0} {t : MatchingMut J} → SameTables t t
unchanged = record { jobs = refl; places = refl; holders = refl; size = refl }

pub after : {J : Type 0} {s t u : MatchingMut J} → SameTables s t → SameTables t u → SameTables s u
after a b = record { jobs = b.jobs ∙ a.jobs; places = b.places ∙ a.places; holders = b.holders ∙ a.holders; size = b.size ∙ a.size }

-- and hold a matching where their entries make one
pub matching_stays : {J : Type 0} {B : lists.Ghosts J} {s t : MatchingMut J} → IsMatching B s → SameTables s t
    → Matched (B.jobs s.jobs.now) (B.width s.jobs.now) (B.holds s.jobs.now) t.places.now t.holders.now → IsMatching B t
matching_stays {J = J} {B = B} {t = t} a e m = record {
  few = subst (λ (j : J). B.jobs j ≤ 65535) (sym e.jobs) a.few;
  narrow = subst (λ (j : J). B.width j ≤ 2048) (sym e.jobs) a.narrow;
  sized = e.size ∙ a.sized ∙ sym (ap B.jobs e.jobs);
  matched = subst (λ (j : J). Matched (B.jobs j) (B.width j) (B.holds j) t.places.now t.holders.now) (sym e.jobs) m;
}
