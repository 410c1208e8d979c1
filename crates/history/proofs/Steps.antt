-- One call on the fronts that it is lent, as the whole tables see it.
use Rattle.std.proofs.Common.{◌≡◌, ℕ, ◌+◌, ◌<◌, ◌≤◌, min, Bool, true, false, if◌then◌else◌, List, [], ◌∷◌, ◌++◌, length, take, drop, set, sym, refl, ap, ◌∙◌, subst, inl, inr, arith}
use Rattle.std.proofs.lemmas.List.{length-set, length-take, length-take-le, set-append_left, take-append-drop, take_more_set, take-take}
use Rattle.std.proofs.lemmas.Bool.{cases_Bool, cond-true, cond-false}
use Rattle.std.proofs.lemmas.Bool.Decides.{nat_tests}
use Rattle.cuts.specs.declared.cut.Cut.{Cut}
use Rattle.board.specs.Book.{Held, short_tables, cut_refusal, return_refusal, named_at}
use Rattle.board.specs.Moments.{current_lists}
use Rattle.board.specs.Outcomes.{lengths}
use Rattle.board.specs.declared.lengths.Lengths.{Lengths}
use Rattle.board.specs.declared.stage.Closed.{Closed}
use Rattle.history.specs.declared.event.Answer.{Answer}
use Rattle.history.specs.declared.event.Ask.{Ask}
use Rattle.history.specs.declared.event.Ask.TheVariants.{Cut as CutOf, Return, Trial, Group, Settle}
use Rattle.history.specs.Calls.{Kinds, Said, said, done, yes_said, no_said, grouped, refused, succeeds, outcome, AskSays, Asked, log_by, StandingBy, StandingAfter, GroupBy}
use Rattle.history.specs.History.{Setting, setting, held_at, lent_to, CallSays, cuts_by, Stepped}
use Rattle.history.proofs.Fronts.{SameFronts, says_fronts, settle_passed, group_passed, stands_same, written_same, stands_whole, written_whole}

-- what a call that was carried out says of its log
cut_room : (b : Held) (log job place : ℕ) → succeeds (outcome (cut_refusal b log job place)) ≡ true → b.cuts < log
cut_room b log job place e = grind (arith, nat_tests)

return_kept : (b : Held) (log k : ℕ) → succeeds (outcome (return_refusal b log k)) ≡ true → k ≤ b.cuts
return_kept b log k e = grind (arith, nat_tests)

-- tables that are long enough
record Fits (limit : ℕ) (b : Held) (l : Lengths) : Type 0 where
  opened : b.jobs ≤ l.opened
  held : b.rules ≤ l.rules
  counted : b.cuts ≤ l.log

not_short : (limit : ℕ) (b : Held) (l : Lengths) → short_tables limit b l ≡ false → Fits limit b l
not_short limit b l e = record { opened = grind (arith, nat_tests); held = grind (arith, nat_tests); counted = grind (arith, nat_tests) }

front_length : {X : Type 0} (i a : ℕ) (xs : List X) → i ≡ min a (length xs) → length (take i xs) ≡ min a (length xs)
front_length i a xs e = length-take-le i xs (omega arith) ∙ e

-- a front that is put back
pub front_back : {X : Type 0} (i : ℕ) (xs ys zs : List X) → ys ≡ take i xs → zs ≡ ys ++ drop i xs → zs ≡ xs
front_back i xs ys zs p q = q ∙ ap (λ v. v ++ drop i xs) p ∙ take-append-drop i xs

-- a write within a front is one of the whole
pub front_set : {X : Type 0} (i j : ℕ) (x : X) (xs ys zs : List X) → j < i → i ≤ length xs → ys ≡ set (take i xs) j x → zs ≡ ys ++ drop i xs → zs ≡ set xs j x
front_set i j x xs ys zs lt le p q =
    let l : j < length (take i xs) = rw length-take-le lt in
    q ∙ ap (λ v. v ++ drop i xs) p ∙ sym (set-append_left (take i xs) (drop i xs) j x l) ∙ ap (λ v. set v j x) (take-append-drop i xs)

-- The tables and the fronts that the call is lent; a front after the call has a name that begins with f.
module _ {L R W : Type 0} (K : Kinds L R) (n w k held held' : ℕ) (opened : List L) (rules : List R) (log flog log' : List Cut) (st st' : Closed)
    (standing fstanding standing' : List L) (group fgroup group' : List ℕ) (working : List L) (numbers : List ℕ) (wakes : List W) (l f : Lengths) (x : Answer)
    (pf : f ≡ lent_to l (lengths (length opened) (length rules) (length log) (length standing) (length group) (length working) (length numbers) (length wakes)))
    (ph : k ≤ length rules) (pc : held ≤ length log)
    (ps : length fstanding ≡ length (take f.standing standing)) (pg : length fgroup ≡ length (take f.group group))
    (plog : log' ≡ flog ++ drop f.log log) (pst : standing' ≡ fstanding ++ drop f.standing standing) (pgr : group' ≡ fgroup ++ drop f.group group) where
  abbrev whole : Lengths
  whole = lengths (length opened) (length rules) (length log) (length standing) (length group) (length working) (length numbers) (length wakes)

  abbrev here : Setting L R
  here = setting n w opened (take k rules) whole

  abbrev counted : List Cut
  counted = take held log

  abbrev board : Held
  board = record { jobs = n; width = w; rules = k; cuts = held }

  abbrev given : Lengths
  given =
      lengths (length (take f.opened opened)) (length (take f.rules rules)) (length (take f.log log)) (length (take f.standing standing))
      (length (take f.group group)) (length (take f.working working)) (length (take f.numbers numbers)) (length (take f.wakes wakes))

  given_is : given ≡ lent_to l whole
  given_is = λ i. record {
    opened = front_length f.opened l.opened opened (ap (λ v. v.opened) pf) i;
    rules = front_length f.rules l.rules rules (ap (λ v. v.rules) pf) i;
    log = front_length f.log l.log log (ap (λ v. v.log) pf) i;
    standing = front_length f.standing l.standing standing (ap (λ v. v.standing) pf) i;
    group = front_length f.group l.group group (ap (λ v. v.group) pf) i;
    working = front_length f.working l.working working (ap (λ v. v.working) pf) i;
    numbers = front_length f.numbers l.numbers numbers (ap (λ v. v.numbers) pf) i;
    wakes = front_length f.wakes l.wakes wakes (ap (λ v. v.wakes) pf) i;
  }

  board_is : board ≡ held_at here counted
  board_is = λ i. record { jobs = n; width = w; rules = sym (length-take-le k rules ph) i; cuts = sym (length-take-le held log pc) i }

  same : short_tables K.limit board given ≡ false → SameFronts K board given (take f.opened opened) opened (take f.rules rules) (take k rules) (take f.log log) counted
  same e =
      let s = not_short K.limit board given e in (
        take-take n f.opened opened (omega (arith, s.opened, length-take f.opened opened)),
        take-take k f.rules rules (omega (arith, s.held, length-take f.rules rules)) ∙ sym (take-take k k rules (omega arith)),
        take-take held f.log log (omega (arith, s.counted, length-take f.log log)) ∙ sym (take-take held held log (omega arith)),
      )

  abbrev AskedHere : Ask → Type 0
  AskedHere a =
      Asked K board (take f.opened opened) (take f.rules rules) given a (said x) held' (take f.log log) flog st st'
      (take f.standing standing) fstanding (take f.group group) fgroup

  abbrev SteppedHere : Ask → Type 0
  SteppedHere a = Stepped K here counted log st standing group (record { call = record { ask = a; lent = l }; answer = x }) held' log' st' standing' group'

  answered : (a : Ask) → AskedHere a → CallSays K here counted (record { ask = a; lent = l }) (said x)
  answered a h =
      subst (λ b. AskSays K b opened (take k rules) counted (lent_to l whole) a (said x)) board_is
      (subst (λ v. AskSays K board opened (take k rules) counted v a (said x)) given_is
      (says_fronts K board given (take f.opened opened) opened (take f.rules rules) (take k rules) (take f.log log) counted a (said x) same h.answer))

  -- the standing lists
  stood_done : (a : Ask) → AskedHere a → succeeds (said x) ≡ true
      → StandingBy K board (take f.opened opened) (take f.rules rules) (take f.log log) a (take f.standing standing) fstanding
      → StandingBy K board opened (take k rules) counted a standing standing'
  stood_done (CutOf action job place) h t e = front_back f.standing standing fstanding standing' e pst
  stood_done (Return i) h t e = front_back f.standing standing fstanding standing' e pst
  stood_done (Trial job place) h t e = front_back f.standing standing fstanding standing' e pst
  stood_done (Group rule) h t e = front_back f.standing standing fstanding standing' e pst
  stood_done Settle h t e =
      let p = settle_passed K board given (take f.opened opened) (take f.rules rules) (take f.log log) (said x) h.answer t in
      let room : n ≤ length (take f.standing standing) = p.1 in
      let now = stands_same K board given (take f.opened opened) opened (take f.rules rules) (take k rules) (take f.log log) counted (same p.0) (take f.standing standing) fstanding e in
      let all = stands_whole K (take k (take k rules)) n (current_lists K.has board opened counted) (take f.standing standing) fstanding (drop f.standing standing) room (omega arith) now in
      subst (λ v. StandingBy K board opened (take k rules) counted Settle standing v) (sym pst)
      (subst (λ v. StandingBy K board opened (take k rules) counted Settle v (fstanding ++ drop f.standing standing)) (take-append-drop f.standing standing) all)

  stood_by : (a : Ask) (t : Bool) → AskedHere a → succeeds (said x) ≡ t
      → StandingAfter t K board (take f.opened opened) (take f.rules rules) (take f.log log) a (take f.standing standing) fstanding
      → StandingAfter t K board opened (take k rules) counted a standing standing'
  stood_by a true h t e = stood_done a h t e
  stood_by a false h t e = front_back f.standing standing fstanding standing' e pst

  stood_here : (a : Ask) → AskedHere a → StandingAfter (succeeds (said x)) K (held_at here counted) opened (take k rules) counted a standing standing'
  stood_here a h =
      subst (λ b. StandingAfter (succeeds (said x)) K b opened (take k rules) counted a standing standing') board_is (stood_by a (succeeds (said x)) h refl h.stood)

  -- the group table
  group_of : (rule : ℕ) (s : Said) → AskSays K board (take f.opened opened) (take f.rules rules) (take f.log log) given (Group rule) s
      → GroupBy K board (take f.opened opened) (take f.rules rules) (take f.log log) (Group rule) s (take f.group group) fgroup
      → GroupBy K board opened (take k rules) counted (Group rule) s group group'
  group_of rule done h e = front_back f.group group fgroup group' e pgr
  group_of rule yes_said h e = front_back f.group group fgroup group' e pgr
  group_of rule no_said h e = front_back f.group group fgroup group' e pgr
  group_of rule (refused c) h e = front_back f.group group fgroup group' e pgr
  group_of rule (grouped count d) h e =
      let p = group_passed K board given (take f.opened opened) (take f.rules rules) (take f.log log) rule count d h in
      let now = written_same K board given (take f.opened opened) opened (take f.rules rules) (take k rules) (take f.log log) counted (same p.0) rule (grouped count d) (take f.group group) fgroup e in
      let all = written_whole K.limit (current_lists K.has board opened counted) (named_at K.names (take k (take k rules)) rule) (grouped count d) (take f.group group) fgroup (drop f.group group) pg now in
      subst (λ v. GroupBy K board opened (take k rules) counted (Group rule) (grouped count d) group v) (sym pgr)
      (subst (λ v. GroupBy K board opened (take k rules) counted (Group rule) (grouped count d) v (fgroup ++ drop f.group group)) (take-append-drop f.group group) all)

  group_by : (a : Ask) → AskedHere a → GroupBy K board opened (take k rules) counted a (said x) group group'
  group_by (CutOf action job place) h = front_back f.group group fgroup group' h.grouping pgr
  group_by (Return i) h = front_back f.group group fgroup group' h.grouping pgr
  group_by (Trial job place) h = front_back f.group group fgroup group' h.grouping pgr
  group_by Settle h = front_back f.group group fgroup group' h.grouping pgr
  group_by (Group rule) h = group_of rule (said x) h.answer h.grouping

  group_here : (a : Ask) → AskedHere a → GroupBy K (held_at here counted) opened (take k rules) counted a (said x) group group'
  group_here a h = subst (λ b. GroupBy K b opened (take k rules) counted a (said x) group group') board_is (group_by a h)

  -- the fields, where the cuts and the log after the call are known
  step_from : (a : Ask) (t : Bool) → AskedHere a → succeeds (said x) ≡ t
      → take held' log' ≡ (if t then cuts_by a counted else counted) → held' ≤ length log' → log' ≡ (if t then log_by a held log else log) → SteppedHere a
  step_from a t h p c r e = record {
    answer = answered a h;
    counted = c ∙ ap (λ v. if v then cuts_by a counted else counted) (sym p);
    room = r;
    logged = e ∙ ap (λ v. if v then log_by a held log else log) (sym p) ∙ ap (λ i. if succeeds (said x) then log_by a i log else log) (sym (length-take-le held log pc));
    staged = h.staged;
    stood = stood_here a h;
    grouping = group_here a h;
  }

  -- a call that leaves cuts and log
  step_still : (a : Ask) (t : Bool) → AskedHere a → succeeds (said x) ≡ t → held' ≡ held → flog ≡ take f.log log
      → counted ≡ (if t then cuts_by a counted else counted) → log ≡ (if t then log_by a held log else log) → SteppedHere a
  step_still a t h p hs fs c e =
      let ls : log' ≡ log = front_back f.log log flog log' fs plog in
      let r : held' ≤ length log' = rw (hs, ls) pc in
      let cs : take held' log' ≡ counted = rw (hs, ls) in
      step_from a t h p (cs ∙ c) r (ls ∙ e)

  step_done : (a : Ask) → AskedHere a → succeeds (said x) ≡ true → SteppedHere a
  step_done (CutOf action job place) h p =
      let e : Cut = record { action = action; job = job; place = place } in
      let hs : held' ≡ held + 1 = h.count ∙ cond-true _ _ _ p in
      let size = length-take-le f.log log (omega (arith, ap (λ v. v.log) pf)) in
      let lt : held < f.log = rw size at (cut_room board (length (take f.log log)) job place (sym (ap succeeds h.answer) ∙ p)) in
      let le : f.log ≤ length log = omega (arith, ap (λ v. v.log) pf) in
      let ls : log' ≡ set log held e = front_set f.log held e log flog log' lt le (h.logged ∙ cond-true _ _ _ p) plog in
      let r : held' ≤ length log' = rw (hs, ls, length-set) (omega arith) in
      let lt' : held < length log = omega arith in
      let cs : take held' log' ≡ counted ++ e ∷ [] = rw (hs, ls) (take_more_set log held e lt') in
      step_from (CutOf action job place) true h p cs r ls
  step_done (Return i) h p =
      let hs : held' ≡ i = h.count ∙ cond-true _ _ _ p in
      let ls : log' ≡ log = front_back f.log log flog log' (h.logged ∙ cond-true _ _ _ p) plog in
      let le : i ≤ held = return_kept board (length (take f.log log)) i (sym (ap succeeds h.answer) ∙ p) in
      let r : held' ≤ length log' = rw (hs, ls) (omega arith) in
      let cs : take held' log' ≡ take i counted = rw (hs, ls) (sym (take-take i held log le)) in
      step_from (Return i) true h p cs r ls
  step_done (Trial job place) h p = step_still (Trial job place) true h p (h.count ∙ cond-true _ _ _ p) (h.logged ∙ cond-true _ _ _ p) refl refl
  step_done (Group rule) h p = step_still (Group rule) true h p (h.count ∙ cond-true _ _ _ p) (h.logged ∙ cond-true _ _ _ p) refl refl
  step_done Settle h p = step_still Settle true h p (h.count ∙ cond-true _ _ _ p) (h.logged ∙ cond-true _ _ _ p) refl refl

  pub step : (a : Ask) → AskedHere a → SteppedHere a
  step a h =
      elim (cases_Bool (succeeds (said x))) [
        | inl p ↦ step_done a h p
        | inr p ↦ step_still a false h p (h.count ∙ cond-false _ _ _ p) (h.logged ∙ cond-false _ _ _ p) refl refl
      ]
