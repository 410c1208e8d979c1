-- A call has one answer.
use Rattle.std.proofs.Common.{◌≡◌, ℕ, zero, suc, ◌<◌, Bool, if◌then◌else◌, List, [], ◌∷◌, length, get_or, Some, None, Option, sym, refl, ap, ◌∙◌, subst, inl, inr, arith}
use Rattle.std.proofs.lemmas.Bool.{cases_order}
use Rattle.refusals.specs.Codes.{Code, code}
use Rattle.theory.specs.Lists.{member}
use Rattle.theory.proofs.Existence.{group_unique}
use Rattle.places.specs.Families.{Family}
use Rattle.cuts.specs.declared.cut.Cut.{Cut}
use Rattle.rules.specs.Progressions.{jobs_of}
use Rattle.rules.specs.declared.progression.Progression.{Progression}
use Rattle.distinct.specs.Groups.{GroupIs, problem, picked}
use Rattle.settling.specs.Consistency.{Complete, ShortAt}
use Rattle.board.specs.Book.{Held}
use Rattle.board.specs.Moments.{SettleSays}
use Rattle.board.specs.declared.lengths.Lengths.{Lengths}
use Rattle.history.specs.declared.event.Ask.{Ask}
use Rattle.history.specs.declared.event.Ask.TheVariants.{Cut as CutOf, Return, Trial, Group, Settle}
use Rattle.history.specs.Calls.{Kinds, Said, done, yes_said, no_said, grouped, refused, outcome, TrialSaid, GroupSaid, AskSays}

-- the lowest job without a place is one
pub lowest_one : {R : Type 0} (scope : R → List ℕ) (admits : R → List ℕ → Bool) (rules : List R) (n : ℕ) (f : Family) (i j : ℕ)
    → ShortAt scope admits rules n f i → ShortAt scope admits rules n f j → i ≡ j
lowest_one scope admits rules n f i j p q =
    elim (cases_order i j) [
      | inl e ↦ e
      | inr o ↦ elim o [ inl lt ↦ absurd (p.emptied (q.lowest i lt)) | inr lt ↦ absurd (q.emptied (p.lowest j lt)) ]
    ]

settle_one : {R : Type 0} (scope : R → List ℕ) (admits : R → List ℕ → Bool) (rules : List R) (n : ℕ) (f : Family) (checks o o' : Option Code)
    → SettleSays scope admits rules n f checks o → SettleSays scope admits rules n f checks o' → o ≡ o'
settle_one scope admits rules n f checks None None p q = refl
settle_one scope admits rules n f checks None (Some c) p (inl q) = let e : checks ≡ None = p.0 in absurd cc
settle_one scope admits rules n f checks None (Some c) p (inr q) = absurd (q.1.2.emptied (p.1 q.1.0 q.1.2.below))
settle_one scope admits rules n f checks (Some c) None (inl p) q = let e : checks ≡ None = q.0 in absurd cc
settle_one scope admits rules n f checks (Some c) None (inr p) q = absurd (p.1.2.emptied (q.1 p.1.0 p.1.2.below))
settle_one scope admits rules n f checks (Some c) (Some c') (inl p) (inl q) = sym p ∙ q
settle_one scope admits rules n f checks (Some c) (Some c') (inl p) (inr q) = let e : checks ≡ None = q.0 in absurd cc
settle_one scope admits rules n f checks (Some c) (Some c') (inr p) (inl q) = let e : checks ≡ None = p.0 in absurd cc
settle_one scope admits rules n f checks (Some c) (Some c') (inr p) (inr q) =
    let e = lowest_one scope admits rules n f p.1.0 q.1.0 p.1.2 q.1.2 in
    ap (λ v. Some v) (p.1.1 ∙ ap (λ j. code 20 j) e ∙ sym q.1.1)

-- the ways that a trial's answer comes about
data TrialWay (checks : Option Code) (C : Type 0) : Said → Type 0 where
  stopped : (c : Code) → checks ≡ Some c → TrialWay checks C (refused c)
  fits : checks ≡ None → C → TrialWay checks C yes_said
  fails : checks ≡ None → (C → ⊥) → TrialWay checks C no_said

trial_way : {R : Type 0} (scope : R → List ℕ) (admits : R → List ℕ → Bool) (rules : List R) (n : ℕ) (f : Family) (checks : Option Code) (x : Said)
    → TrialSaid scope admits rules n f checks x → TrialWay checks (Complete scope admits rules n f) x
trial_way scope admits rules n f checks done h = absurd h
trial_way scope admits rules n f checks yes_said h = fits h.0 h.1
trial_way scope admits rules n f checks no_said h = fails h.0 h.1
trial_way scope admits rules n f checks (grouped count d) h = absurd h
trial_way scope admits rules n f checks (refused c) h = stopped c h

trial_one : (checks : Option Code) (C : Type 0) (x y : Said) → TrialWay checks C x → TrialWay checks C y → x ≡ y
trial_one checks C x y (stopped c p) (stopped c' q) = cc
trial_one checks C x y (stopped c p) (fits q h) = absurd cc
trial_one checks C x y (stopped c p) (fails q h) = absurd cc
trial_one checks C x y (fits p h) (stopped c q) = absurd cc
trial_one checks C x y (fits p h) (fits q h') = refl
trial_one checks C x y (fits p h) (fails q h') = absurd (h' h)
trial_one checks C x y (fails p h) (stopped c q) = absurd cc
trial_one checks C x y (fails p h) (fits q h') = absurd (h h')
trial_one checks C x y (fails p h) (fails q h') = refl

-- tests that agree on a list pick the same of it
picked_same : (t t' : ℕ → Bool) (xs : List ℕ) → ((k : ℕ) → k < length xs → t (get_or xs k 0) ≡ t' (get_or xs k 0)) → picked t xs ≡ picked t' xs
picked_same t t' [] h = refl
picked_same t t' (x ∷ xs) h =
    ap (λ v. if v then x ∷ picked t xs else picked t xs) (h zero (omega arith))
    ∙ ap (λ v. if t' x then x ∷ v else v) (picked_same t t' xs (λ k lt. h (suc k) (omega arith)))

-- a scope has one group
pub group_one : (w : ℕ) (f : Family) (scope jobs jobs' : List ℕ) (d d' : ℕ) → GroupIs w f scope jobs d → GroupIs w f scope jobs' d' → (jobs ≡ jobs') × (d ≡ d')
group_one w f scope jobs jobs' d d' p q =
    let u = group_unique (problem w f scope) (λ k. member jobs (get_or scope k 0)) (λ k. member jobs' (get_or scope k 0)) d d' p.group q.group in
    (p.listed ∙ picked_same (member jobs) (member jobs') scope u.1 ∙ sym q.listed, u.0)

data GroupWay (limit : ℕ) (f : Family) (named : Option Progression) (checks : Option Code) : Said → Type 0 where
  group_stopped : (c : Code) → checks ≡ Some c → GroupWay limit f named checks (refused c)
  found : (count d : ℕ) (p : Progression) (jobs : List ℕ) → checks ≡ None → named ≡ Some p → length jobs ≡ count → GroupIs limit f (jobs_of p) jobs d
      → GroupWay limit f named checks (grouped count d)

group_way : (limit : ℕ) (f : Family) (named : Option Progression) (checks : Option Code) (x : Said) → GroupSaid limit f named checks x → GroupWay limit f named checks x
group_way limit f named checks done h = absurd h
group_way limit f named checks yes_said h = absurd h
group_way limit f named checks no_said h = absurd h
group_way limit f named checks (grouped count d) (e, (p, names, (jobs, size, group))) = found count d p jobs e names size group
group_way limit f named checks (refused c) h = group_stopped c h

group_answer : (limit : ℕ) (f : Family) (named : Option Progression) (checks : Option Code) (x y : Said) → GroupWay limit f named checks x → GroupWay limit f named checks y → x ≡ y
group_answer limit f named checks x y (group_stopped c p) (group_stopped c' q) = cc
group_answer limit f named checks x y (group_stopped c p) (found count d r jobs e names size g) = absurd cc
group_answer limit f named checks x y (found count d r jobs e names size g) (group_stopped c p) = absurd cc
group_answer limit f named checks x y (found count d r jobs e names size g) (found count' d' r' jobs' e' names' size' g') =
    let same : r' ≡ r = cc in
    let u = group_one limit f (jobs_of r) jobs jobs' d d' g (subst (λ v. GroupIs limit f (jobs_of v) jobs' d') same g') in
    ap (λ v. grouped v d) (sym size ∙ ap length u.0 ∙ size') ∙ ap (λ v. grouped count' v) u.1

pub ask_one : {L R : Type 0} (K : Kinds L R) (b : Held) (opened : List L) (rules : List R) (cuts : List Cut) (l : Lengths) (a : Ask) (x y : Said)
    → AskSays K b opened rules cuts l a x → AskSays K b opened rules cuts l a y → x ≡ y
ask_one K b opened rules cuts l (CutOf action job place) x y p q = p ∙ sym q
ask_one K b opened rules cuts l (Return k) x y p q = p ∙ sym q
ask_one K b opened rules cuts l (Trial job place) x y p q = trial_one _ _ x y (trial_way _ _ _ _ _ _ x p) (trial_way _ _ _ _ _ _ y q)
ask_one K b opened rules cuts l (Group rule) x y p q = group_answer _ _ _ _ x y (group_way _ _ _ _ x p) (group_way _ _ _ _ y q)
ask_one K b opened rules cuts l Settle x y p q = p.1 ∙ ap outcome (settle_one _ _ _ _ _ _ p.0 q.0 p.2 q.2) ∙ sym q.1
