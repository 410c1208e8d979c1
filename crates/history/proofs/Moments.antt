-- What the answer at one moment says, in the subject's words.
use Rattle.std.proofs.Common.{◌≡◌, ℕ, Bool, ◌⊎◌, List, length, take, Some, None, Option, sym, refl, ap, ◌∙◌, subst, inl, inr, arith}
use Rattle.std.proofs.lemmas.List.{take_all}
use Rattle.refusals.specs.Codes.{Code, code}
use Rattle.places.specs.Families.{Family, family, fixed}
use Rattle.cuts.specs.Current.{current}
use Rattle.cuts.specs.declared.cut.Cut.{Cut}
use Rattle.rules.specs.declared.progression.Progression.{Progression}
use Rattle.settling.specs.Consistency.{Complete, ShortAt}
use Rattle.board.specs.Book.{named_at}
use Rattle.board.specs.Moments.{SettleSays, Stands}
use Rattle.board.specs.declared.lengths.Lengths.{Lengths}
use Rattle.history.specs.declared.event.Ask.{Ask}
use Rattle.history.specs.declared.event.Ask.TheVariants.{Cut as CutOf, Return, Trial, Group, Settle}
use Rattle.history.specs.Calls.{Kinds, Said, done, yes_said, no_said, grouped, refused, outcome, TrialSaid, GroupSaid, AskSays}
use Rattle.history.specs.History.{Setting, held_at, current_by, book}
use Rattle.history.proofs.Uniqueness.{lowest_one}

-- a whole list, and not only its front
whole : {X : Type 0} (xs : List X) → take (length xs) xs ≡ xs
whole xs = take_all (length xs) xs (omega arith)

outcome_refused : (o : Option Code) (c : Code) → refused c ≡ outcome o → o ≡ Some c
outcome_refused None c e = absurd cc
outcome_refused (Some d) c e = cc

outcome_done : (o : Option Code) → done ≡ outcome o → o ≡ None
outcome_done None e = refl
outcome_done (Some d) e = absurd cc

trial_refused : {R : Type 0} (scope : R → List ℕ) (admits : R → List ℕ → Bool) (rules : List R) (n : ℕ) (f : Family) (checks : Option Code) (c : Code) (x : Said)
    → checks ≡ Some c → TrialSaid scope admits rules n f checks x → x ≡ refused c
trial_refused scope admits rules n f checks c done p h = absurd h
trial_refused scope admits rules n f checks c yes_said p h = let e : checks ≡ None = h.0 in absurd cc
trial_refused scope admits rules n f checks c no_said p h = let e : checks ≡ None = h.0 in absurd cc
trial_refused scope admits rules n f checks c (grouped count d) p h = absurd h
trial_refused scope admits rules n f checks c (refused e) p h = let q : checks ≡ Some e = h in cc

group_refused : (limit : ℕ) (f : Family) (named : Option Progression) (checks : Option Code) (c : Code) (x : Said)
    → checks ≡ Some c → GroupSaid limit f named checks x → x ≡ refused c
group_refused limit f named checks c done p h = absurd h
group_refused limit f named checks c yes_said p h = absurd h
group_refused limit f named checks c no_said p h = absurd h
group_refused limit f named checks c (grouped count d) p h = let e : checks ≡ None = h.0 in absurd cc
group_refused limit f named checks c (refused e) p h = let q : checks ≡ Some e = h in cc

module _ {R : Type 0} (scope : R → List ℕ) (admits : R → List ℕ → Bool) (rules : List R) (n : ℕ) (f : Family) (checks : Option Code) where
  settle_refused : (c : Code) (o : Option Code) → checks ≡ Some c → SettleSays scope admits rules n f checks o → o ≡ Some c
  settle_refused c None p h = let e : checks ≡ None = h.0 in absurd cc
  settle_refused c (Some d) p (inl h) = sym h ∙ p
  settle_refused c (Some d) p (inr h) = let e : checks ≡ None = h.0 in absurd cc

  settle_whole : (o : Option Code) → checks ≡ None → Complete scope admits rules n f → SettleSays scope admits rules n f checks o → o ≡ None
  settle_whole None p all h = refl
  settle_whole (Some d) p all (inl h) = absurd cc
  settle_whole (Some d) p all (inr h) = absurd (h.1.2.emptied (all h.1.0 h.1.2.below))

  settle_short : (j : ℕ) (o : Option Code) → checks ≡ None → ShortAt scope admits rules n f j → SettleSays scope admits rules n f checks o → o ≡ Some (code 20 j)
  settle_short j None p short h = absurd (short.emptied (h.1 j short.below))
  settle_short j (Some d) p short (inl h) = absurd cc
  settle_short j (Some d) p short (inr h) =
      ap (λ v. Some v) (h.1.1 ∙ ap (λ i. code 20 i) (lowest_one scope admits rules n f h.1.0 j h.1.2 short))

module _ {L R : Type 0} (K : Kinds L R) (s : Setting L R) (ks : List Cut) (l : Lengths) (x : Said) where
  abbrev Here : Ask → Type 0
  Here a = AskSays K (held_at s ks) s.opened s.rules ks l a x

  abbrev by_book : Ask → Option Code
  by_book a = book K (held_at s ks) s.opened s.rules ks l a

  abbrev lists : Family
  lists = current_by K s ks

  settle_here : (o : Option Code) (checks : Option Code)
      → SettleSays K.scope K.admits (take (length s.rules) s.rules) s.jobs (current (family K.has (take s.jobs s.opened)) (take (length ks) ks)) checks o
      → SettleSays K.scope K.admits s.rules s.jobs lists checks o
  settle_here o checks h =
      subst (λ cs. SettleSays K.scope K.admits s.rules s.jobs (current (family K.has (take s.jobs s.opened)) cs) checks o) (whole ks)
      (subst (λ rs. SettleSays K.scope K.admits rs s.jobs (current (family K.has (take s.jobs s.opened)) (take (length ks) ks)) checks o) (whole s.rules) h)

  trial_here : (job place : ℕ) → Here (Trial job place) → TrialSaid K.scope K.admits s.rules s.jobs (fixed job place lists) (by_book (Trial job place)) x
  trial_here job place h =
      subst (λ cs. TrialSaid K.scope K.admits s.rules s.jobs (fixed job place (current (family K.has (take s.jobs s.opened)) cs)) (by_book (Trial job place)) x) (whole ks)
      (subst (λ rs. TrialSaid K.scope K.admits rs s.jobs (fixed job place (current (family K.has (take s.jobs s.opened)) (take (length ks) ks))) (by_book (Trial job place)) x) (whole s.rules) h)

  group_here : (rule : ℕ) → Here (Group rule) → GroupSaid K.limit lists (named_at K.names s.rules rule) (by_book (Group rule)) x
  group_here rule h =
      subst (λ cs. GroupSaid K.limit (current (family K.has (take s.jobs s.opened)) cs) (named_at K.names s.rules rule) (by_book (Group rule)) x) (whole ks)
      (subst (λ rs. GroupSaid K.limit (current (family K.has (take s.jobs s.opened)) (take (length ks) ks)) (named_at K.names rs rule) (by_book (Group rule)) x) (whole s.rules) h)

  -- what the book refuses is refused
  pub book_refuses : (a : Ask) (c : Code) → by_book a ≡ Some c → Here a → x ≡ refused c
  book_refuses (CutOf action job place) c p h = h ∙ ap outcome p
  book_refuses (Return k) c p h = h ∙ ap outcome p
  book_refuses (Trial job place) c p h = trial_refused _ _ _ _ _ _ c x p h
  book_refuses (Group rule) c p h = group_refused _ _ _ _ c x p h
  book_refuses Settle c p h = h.1 ∙ ap outcome (settle_refused _ _ _ _ _ _ c h.0 p h.2)

  -- and what is refused the book refuses, or is a settling that leaves a job no place
  abbrev Short : Ask → Code → Type 0
  Short a c = (by_book a ≡ None) × (a ≡ Settle) × ((j : ℕ) × (c ≡ code 20 j) × ShortAt K.scope K.admits s.rules s.jobs lists j)

  settle_by_book : (c : Code) → SettleSays K.scope K.admits s.rules s.jobs lists (by_book Settle) (Some c) → (by_book Settle ≡ Some c) ⊎ Short Settle c
  settle_by_book c (inl h) = inl h
  settle_by_book c (inr h) = inr (h.0, refl, h.1)

  pub refused_by_book : (a : Ask) (c : Code) → x ≡ refused c → Here a → (by_book a ≡ Some c) ⊎ Short a c
  refused_by_book (CutOf action job place) c p h = inl (outcome_refused _ c (sym p ∙ h))
  refused_by_book (Return k) c p h = inl (outcome_refused _ c (sym p ∙ h))
  refused_by_book (Trial job place) c p h =
      inl (subst (λ v. TrialSaid K.scope K.admits s.rules s.jobs (fixed job place lists) (by_book (Trial job place)) v) p (trial_here job place h))
  refused_by_book (Group rule) c p h = inl (subst (λ v. GroupSaid K.limit lists (named_at K.names s.rules rule) (by_book (Group rule)) v) p (group_here rule h))
  refused_by_book Settle c p h =
      settle_by_book c
      (subst (λ v. SettleSays K.scope K.admits s.rules s.jobs lists (by_book Settle) v) (outcome_refused h.0 c (sym p ∙ h.1)) (settle_here h.0 (by_book Settle) h.2))

  pub settling_right : (a : Ask) → a ≡ Settle → Here a
      → (x ≡ done → (by_book a ≡ None) × Complete K.scope K.admits s.rules s.jobs lists)
      × (by_book a ≡ None → Complete K.scope K.admits s.rules s.jobs lists → x ≡ done)
      × ((j : ℕ) → by_book a ≡ None → ShortAt K.scope K.admits s.rules s.jobs lists j → x ≡ refused (code 20 j))
  settling_right (CutOf action job place) e h = absurd cc
  settling_right (Return k) e h = absurd cc
  settling_right (Trial job place) e h = absurd cc
  settling_right (Group rule) e h = absurd cc
  settling_right Settle e h =
      let now = settle_here h.0 (by_book Settle) h.2 in (
        λ p. subst (λ v. SettleSays K.scope K.admits s.rules s.jobs lists (by_book Settle) v) (outcome_done h.0 (sym p ∙ h.1)) now,
        λ p all. h.1 ∙ ap outcome (settle_whole _ _ _ _ _ _ h.0 p all now),
        λ j p short. h.1 ∙ ap outcome (settle_short _ _ _ _ _ _ j h.0 p short now),
      )

  pub trial_right : (a : Ask) (job place : ℕ) → a ≡ Trial job place → Here a → TrialSaid K.scope K.admits s.rules s.jobs (fixed job place lists) (by_book a) x
  trial_right a job place e =
      subst (λ v. Here v → TrialSaid K.scope K.admits s.rules s.jobs (fixed job place lists) (by_book v) x) (sym e) (trial_here job place)

  pub group_right : (a : Ask) (rule : ℕ) → a ≡ Group rule → Here a → GroupSaid K.limit lists (named_at K.names s.rules rule) (by_book a) x
  group_right a rule e = subst (λ v. Here v → GroupSaid K.limit lists (named_at K.names s.rules rule) (by_book v) x) (sym e) (group_here rule)

module _ {L R : Type 0} (K : Kinds L R) (s : Setting L R) (ks : List Cut) where
  -- what a settling writes
  pub stands_here : (before after : List L)
      → Stands K.has K.scope K.admits (take (length s.rules) s.rules) s.jobs (current (family K.has (take s.jobs s.opened)) (take (length ks) ks)) before after
      → Stands K.has K.scope K.admits s.rules s.jobs (current_by K s ks) before after
  stands_here before after h =
      subst (λ cs. Stands K.has K.scope K.admits s.rules s.jobs (current (family K.has (take s.jobs s.opened)) cs) before after) (whole ks)
      (subst (λ rs. Stands K.has K.scope K.admits rs s.jobs (current (family K.has (take s.jobs s.opened)) (take (length ks) ks)) before after) (whole s.rules) h)
