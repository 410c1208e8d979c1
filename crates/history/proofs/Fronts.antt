-- A call looks at no more of its tables than the board holds of them; where they are shorter it is refused whatever they hold.
use Rattle.std.proofs.Common.{◌≡◌, ℕ, ◌≤◌, Bool, true, false, not, ◌||◌, nat_lt, List, ◌++◌, length, take, is_some, Some, None, Option, sym, refl, ap, ◌∙◌, subst, inl, inr, arith}
use Rattle.std.proofs.lemmas.List.{length-append, take-append-le, drop-append-le}
use Rattle.std.proofs.lemmas.Bool.{cases_Bool, or_left, or_parts}
use Rattle.std.proofs.lemmas.Bool.Decides.{nat_tests}
use Rattle.refusals.specs.Codes.{Code, code, then_check, fails_if}
use Rattle.places.specs.Families.{Family, family, fixed}
use Rattle.cuts.specs.Current.{current}
use Rattle.cuts.specs.declared.cut.Cut.{Cut}
use Rattle.rules.specs.Progressions.{jobs_of}
use Rattle.rules.specs.declared.progression.Progression.{Progression}
use Rattle.distinct.specs.Groups.{GroupIs}
use Rattle.settling.specs.Consistency.{Settled, KeepsPlacings}
use Rattle.board.specs.Book.{Held, wide_list, unlawful_rule, outside_cut, room_refusal, short_tables, cut_refusal, return_refusal, named_at}
use Rattle.board.specs.Moments.{SettleSays, Stands}
use Rattle.board.specs.declared.lengths.Lengths.{Lengths}
use Rattle.history.specs.declared.event.Ask.{Ask}
use Rattle.history.specs.declared.event.Ask.TheVariants.{Cut as CutOf, Return, Trial, Group, Settle}
use Rattle.history.specs.Calls.{Kinds, Said, done, yes_said, no_said, grouped, refused, succeeds, outcome, TrialSaid, GroupSaid, GroupWritten, AskSays}

-- a check that came first
pub stopped_first : (t : Bool) (rest : Option Code) → t ≡ true → then_check (fails_if t 10) rest ≡ Some (code 10 0)
stopped_first t rest e = ap (λ v. then_check (fails_if v 10) rest) e

pub passed_first : (t : Bool) (rest : Option Code) → then_check (fails_if t 10) rest ≡ None → t ≡ false
passed_first true rest e = absurd cc
passed_first false rest e = refl

-- checks that refuse leave nothing to lists and rules
trial_any : {R : Type 0} (scope : R → List ℕ) (admits : R → List ℕ → Bool) (rules rules' : List R) (n : ℕ) (f f' : Family) (checks checks' : Option Code) (c : Code) (x : Said)
    → checks ≡ Some c → checks' ≡ Some c → TrialSaid scope admits rules n f checks x → TrialSaid scope admits rules' n f' checks' x
trial_any scope admits rules rules' n f f' checks checks' c done p q h = h
trial_any scope admits rules rules' n f f' checks checks' c yes_said p q h = let e : checks ≡ None = h.0 in absurd cc
trial_any scope admits rules rules' n f f' checks checks' c no_said p q h = let e : checks ≡ None = h.0 in absurd cc
trial_any scope admits rules rules' n f f' checks checks' c (grouped count d) p q h = h
trial_any scope admits rules rules' n f f' checks checks' c (refused e) p q h = q ∙ sym p ∙ h

group_any : (limit : ℕ) (f f' : Family) (named named' : Option Progression) (checks checks' : Option Code) (c : Code) (x : Said)
    → checks ≡ Some c → checks' ≡ Some c → GroupSaid limit f named checks x → GroupSaid limit f' named' checks' x
group_any limit f f' named named' checks checks' c done p q h = h
group_any limit f f' named named' checks checks' c yes_said p q h = h
group_any limit f f' named named' checks checks' c no_said p q h = h
group_any limit f f' named named' checks checks' c (grouped count d) p q h = let e : checks ≡ None = h.0 in absurd cc
group_any limit f f' named named' checks checks' c (refused e) p q h = q ∙ sym p ∙ h

settle_any : {R : Type 0} (scope : R → List ℕ) (admits : R → List ℕ → Bool) (rules rules' : List R) (n : ℕ) (f f' : Family) (checks checks' : Option Code) (c : Code) (o : Option Code)
    → checks ≡ Some c → checks' ≡ Some c → SettleSays scope admits rules n f checks o → SettleSays scope admits rules' n f' checks' o
settle_any scope admits rules rules' n f f' checks checks' c None p q h = let e : checks ≡ None = h.0 in absurd cc
settle_any scope admits rules rules' n f f' checks checks' c (Some e) p q (inl h) = inl (q ∙ sym p ∙ h)
settle_any scope admits rules rules' n f f' checks checks' c (Some e) p q (inr h) = let u : checks ≡ None = h.0 in absurd cc

module _ {L R : Type 0} (K : Kinds L R) (b : Held) (l : Lengths) where
  -- what the checks see of the first lists, rules and cuts
  abbrev held_checks : List L → List R → List Cut → Option Code
  held_checks xs rs ks =
      then_check (wide_list K.has K.limit b.width xs) (then_check (unlawful_rule K.lawful b.jobs rs) (outside_cut b.jobs b.width ks))

  -- what a call says, by the first lists, rules and cuts alone
  abbrev FrontSays : List L → List R → List Cut → Ask → Said → Type 0
  FrontSays xs rs ks (CutOf action job place) x = x ≡ outcome (cut_refusal b l.log job place)
  FrontSays xs rs ks (Return k) x = x ≡ outcome (return_refusal b l.log k)
  FrontSays xs rs ks (Trial job place) x =
      TrialSaid K.scope K.admits rs b.jobs (fixed job place (current (family K.has xs) ks))
      (then_check (fails_if (short_tables K.limit b l) 10) (then_check (held_checks xs rs ks) (room_refusal b l.log job place))) x
  FrontSays xs rs ks (Group rule) x =
      GroupSaid K.limit (current (family K.has xs) ks) (named_at K.names rs rule)
      (then_check (fails_if (short_tables K.limit b l || nat_lt l.group b.jobs) 10) (then_check (held_checks xs rs ks) (fails_if (not (is_some (named_at K.names rs rule))) 18))) x
  FrontSays xs rs ks Settle x =
      (o : Option Code) × (x ≡ outcome o) × SettleSays K.scope K.admits rs b.jobs (current (family K.has xs) ks)
      (then_check (fails_if (short_tables K.limit b l || nat_lt l.standing b.jobs) 10) (held_checks xs rs ks)) o

module _ {L R : Type 0} (K : Kinds L R) (b : Held) (l : Lengths) (o o' : List L) (r r' : List R) (c c' : List Cut) where
  -- the same first lists, rules and cuts
  abbrev pub SameFronts : Type 0
  SameFronts = (take b.jobs o ≡ take b.jobs o') × (take b.rules r ≡ take b.rules r') × (take b.cuts c ≡ take b.cuts c')

  same_fronts : (a : Ask) (x : Said) → SameFronts
      → FrontSays K b l (take b.jobs o) (take b.rules r) (take b.cuts c) a x → FrontSays K b l (take b.jobs o') (take b.rules r') (take b.cuts c') a x
  same_fronts a x e h =
      subst (λ ks. FrontSays K b l (take b.jobs o') (take b.rules r') ks a x) e.2
      (subst (λ rs. FrontSays K b l (take b.jobs o') rs (take b.cuts c) a x) e.1
      (subst (λ xs. FrontSays K b l xs (take b.rules r) (take b.cuts c) a x) e.0 h))

  -- with tables that are too short a call says the same of any lists, rules and cuts
  says_short : (a : Ask) (x : Said) → short_tables K.limit b l ≡ true → AskSays K b o r c l a x → AskSays K b o' r' c' l a x
  says_short (CutOf action job place) x t h = h
  says_short (Return k) x t h = h
  says_short (Trial job place) x t h = trial_any _ _ _ _ _ _ _ _ _ (code 10 0) x (stopped_first _ _ t) (stopped_first _ _ t) h
  says_short (Group rule) x t h =
      let u : (short_tables K.limit b l || nat_lt l.group b.jobs) ≡ true = or_left _ _ t in
      group_any _ _ _ _ _ _ _ (code 10 0) x (stopped_first _ _ u) (stopped_first _ _ u) h
  says_short Settle x t h =
      let u : (short_tables K.limit b l || nat_lt l.standing b.jobs) ≡ true = or_left _ _ t in
      (h.0, h.1, settle_any _ _ _ _ _ _ _ _ _ (code 10 0) h.0 (stopped_first _ _ u) (stopped_first _ _ u) h.2)

  says_same : (a : Ask) (x : Said) → SameFronts → AskSays K b o r c l a x → AskSays K b o' r' c' l a x
  says_same (CutOf action job place) x e h = h
  says_same (Return k) x e h = h
  says_same (Trial job place) x e h = same_fronts (Trial job place) x e h
  says_same (Group rule) x e h = same_fronts (Group rule) x e h
  says_same Settle x e h = same_fronts Settle x e h

  pub says_fronts : (a : Ask) (x : Said) → (short_tables K.limit b l ≡ false → SameFronts) → AskSays K b o r c l a x → AskSays K b o' r' c' l a x
  says_fronts a x same h =
      elim (cases_Bool (short_tables K.limit b l)) [ inl t ↦ says_short a x t h | inr f ↦ says_same a x (same f) h ]

-- a call that was carried out had tables long enough
module _ {L R : Type 0} (K : Kinds L R) (b : Held) (l : Lengths) (o : List L) (r : List R) (c : List Cut) where
  pub settle_passed : (x : Said) → AskSays K b o r c l Settle x → succeeds x ≡ true → (short_tables K.limit b l ≡ false) × (b.jobs ≤ l.standing)
  settle_passed x (None, e, h) t =
      let p = or_parts _ _ (passed_first _ _ h.0) in
      let q : nat_lt l.standing b.jobs ≡ false = p.1 in
      (p.0, grind (arith, nat_tests))
  settle_passed x (Some k, e, h) t = absurd cc

  pub group_passed : (rule count d : ℕ) → AskSays K b o r c l (Group rule) (grouped count d) → (short_tables K.limit b l ≡ false) × (b.jobs ≤ l.group)
  group_passed rule count d h =
      let p = or_parts _ _ (passed_first _ _ h.0) in
      let q : nat_lt l.group b.jobs ≡ false = p.1 in
      (p.0, grind (arith, nat_tests))

module _ {L R : Type 0} (K : Kinds L R) (b : Held) (l : Lengths) (o o' : List L) (r r' : List R) (c c' : List Cut) (same : SameFronts K b l o o' r r' c c') where
  pub stands_same : (before after : List L)
      → Stands K.has K.scope K.admits (take b.rules r) b.jobs (current (family K.has (take b.jobs o)) (take b.cuts c)) before after
      → Stands K.has K.scope K.admits (take b.rules r') b.jobs (current (family K.has (take b.jobs o')) (take b.cuts c')) before after
  stands_same before after h =
      subst (λ ks. Stands K.has K.scope K.admits (take b.rules r') b.jobs (current (family K.has (take b.jobs o')) ks) before after) same.2
      (subst (λ rs. Stands K.has K.scope K.admits rs b.jobs (current (family K.has (take b.jobs o')) (take b.cuts c)) before after) same.1
      (subst (λ xs. Stands K.has K.scope K.admits (take b.rules r) b.jobs (current (family K.has xs) (take b.cuts c)) before after) same.0 h))

  pub written_same : (rule : ℕ) (x : Said) (before after : List ℕ)
      → GroupWritten K.limit (current (family K.has (take b.jobs o)) (take b.cuts c)) (named_at K.names (take b.rules r) rule) x before after
      → GroupWritten K.limit (current (family K.has (take b.jobs o')) (take b.cuts c')) (named_at K.names (take b.rules r') rule) x before after
  written_same rule x before after h =
      subst (λ ks. GroupWritten K.limit (current (family K.has (take b.jobs o')) ks) (named_at K.names (take b.rules r') rule) x before after) same.2
      (subst (λ rs. GroupWritten K.limit (current (family K.has (take b.jobs o')) (take b.cuts c)) (named_at K.names rs rule) x before after) same.1
      (subst (λ xs. GroupWritten K.limit (current (family K.has xs) (take b.cuts c)) (named_at K.names (take b.rules r) rule) x before after) same.0 h))

-- what stands in the front of a table stands in the whole
pub stands_whole : {L R : Type 0} (K : Kinds L R) (rules : List R) (n : ℕ) (f : Family) (front front' more : List L) → n ≤ length front → n ≤ length front'
    → Stands K.has K.scope K.admits rules n f front front' → Stands K.has K.scope K.admits rules n f (front ++ more) (front' ++ more)
stands_whole K rules n f front front' more le le' h =
    let t = take-append-le n front' more le' in
    record {
      settled = subst (λ xs. Settled K.scope K.admits rules f (family K.has xs)) (sym t) h.settled;
      placings = subst (λ xs. KeepsPlacings K.scope K.admits rules n f (family K.has xs)) (sym t) h.placings;
      rest = drop-append-le n front' more le' ∙ ap (λ xs. xs ++ more) h.rest ∙ sym (drop-append-le n front more le);
    }

pub written_whole : (limit : ℕ) (f : Family) (named : Option Progression) (x : Said) (front front' more : List ℕ) → length front' ≡ length front
    → GroupWritten limit f named x front front' → GroupWritten limit f named x (front ++ more) (front' ++ more)
written_whole limit f named done front front' more e h = ap (λ xs. xs ++ more) h
written_whole limit f named yes_said front front' more e h = ap (λ xs. xs ++ more) h
written_whole limit f named no_said front front' more e h = ap (λ xs. xs ++ more) h
written_whole limit f named (refused c) front front' more e h = ap (λ xs. xs ++ more) h
written_whole limit f named (grouped count d) front front' more e (p, names, group, within, rest) =
    let le : count ≤ length front = omega arith in
    let room : count ≤ length (front' ++ more) = simp length-append (omega arith) in (
      p,
      names,
      subst (λ xs. GroupIs limit f (jobs_of p) xs d) (sym (take-append-le count front' more within)) group,
      room,
      drop-append-le count front' more within ∙ ap (λ xs. xs ++ more) rest ∙ sym (drop-append-le count front more le),
    )
