-- Histories: their moments, one event more, trials left out, and what the calls determine.
use Rattle.std.proofs.Common.{◌≡◌, ℕ, zero, suc, ◌<◌, Bool, true, false, if◌then◌else◌, List, [], ◌∷◌, ◌++◌, length, get_or, set, sym, refl, ap, ◌∙◌, subst, arith}
use Rattle.std.proofs.lemmas.List.{map-set, get_or-map, set-get_or}
use Rattle.cuts.specs.declared.cut.Cut.{Cut}
use Rattle.board.specs.declared.stage.Closed.{Closed}
use Rattle.history.specs.declared.event.Ask.{Ask}
use Rattle.history.specs.declared.event.Ask.TheVariants.{Trial}
use Rattle.history.specs.declared.event.Call.{Call}
use Rattle.history.specs.declared.event.Event.{Event}
use Rattle.history.specs.Calls.{Kinds, Said, said, succeeds, log_by, stage_by, StandingAfter, GroupBy}
use Rattle.history.specs.History.{Setting, held_at, lent_to, CallSays, cuts_by, cuts_after, log_after, stage_after, cuts_from, log_from, stage_from, calls_of, answers_of, Moments, TrialsOut, none, kept, out, StandingFrom, GroupFrom}
use Rattle.history.proofs.Uniqueness.{ask_one}

-- ---- one event more at the end

pub cuts_push : (ks : List Cut) (h : List Event) (e : Event) → cuts_from ks (h ++ e ∷ []) ≡ cuts_after (cuts_from ks h) e
cuts_push ks [] e = refl
cuts_push ks (x ∷ h) e = cuts_push (cuts_after ks x) h e

pub log_push : (ks log : List Cut) (h : List Event) (e : Event) → log_from ks log (h ++ e ∷ []) ≡ log_after (cuts_from ks h) (log_from ks log h) e
log_push ks log [] e = refl
log_push ks log (x ∷ h) e = log_push (cuts_after ks x) (log_after ks log x) h e

pub stage_push : (st : Closed) (h : List Event) (e : Event) → stage_from st (h ++ e ∷ []) ≡ stage_after (stage_from st h) e
stage_push st [] e = refl
stage_push st (x ∷ h) e = stage_push (stage_after st x) h e

-- an event that is written keeps its call
pub same_calls : (h : List Event) (i : ℕ) (e d : Event) → e.call ≡ (get_or h i d).call → i < length h → calls_of (set h i e) ≡ calls_of h
same_calls h i e d p lt =
    map-set (λ (v : Event). v.call) h i e ∙ ap (λ v. set (calls_of h) i v) (p ∙ sym (get_or-map (λ (v : Event). v.call) h i d d.call lt))
    ∙ set-get_or (calls_of h) i d.call

-- ---- trials left out

cond_same : {X : Type 0} (t : Bool) (x y : X) → x ≡ y → (if t then x else y) ≡ y
cond_same true x y p = p
cond_same false x y p = refl

-- a trial changes neither cuts nor stage
trial_cuts : (ks : List Cut) (e : Event) (job place : ℕ) → e.call.ask ≡ Trial job place → cuts_after ks e ≡ ks
trial_cuts ks e job place p = cond_same _ _ _ (ap (λ a. cuts_by a ks) p)

trial_stage : (st : Closed) (e : Event) (job place : ℕ) → e.call.ask ≡ Trial job place → stage_after st e ≡ st
trial_stage st e job place p = cond_same _ _ _ (ap (λ a. stage_by a st) p)

trial_log : (ks log : List Cut) (e : Event) (job place : ℕ) → e.call.ask ≡ Trial job place → log_after ks log e ≡ log
trial_log ks log e job place p = cond_same _ _ _ (ap (λ a. log_by a (length ks) log) p)

pub log_out : (ks log : List Cut) {h h' : List Event} → TrialsOut h h' → log_from ks log h' ≡ log_from ks log h
log_out ks log none = refl
log_out ks log (kept {e} {h} {h'} t) = log_out (cuts_after ks e) (log_after ks log e) t
log_out ks log (out {e} {h} {h'} job place p t) =
    log_out ks log t ∙ ap (λ k. log_from k log h) (sym (trial_cuts ks e job place p)) ∙ ap (λ v. log_from (cuts_after ks e) v h) (sym (trial_log ks log e job place p))

module _ {L R : Type 0} (K : Kinds L R) (s : Setting L R) where
  -- the first event's moment, and those of the rest
  first_moment : (ks : List Cut) (e : Event) (h : List Event) → Moments K s ks (e ∷ h) → CallSays K s ks e.call (said e.answer)
  first_moment ks e h m = m zero e (omega arith)

  later_moments : (ks : List Cut) (e : Event) (h : List Event) → Moments K s ks (e ∷ h) → Moments K s (cuts_after ks e) h
  later_moments ks e h m = λ i d lt. m (suc i) d (omega arith)

  more_moments : (ks : List Cut) (e : Event) (h : List Event) → CallSays K s ks e.call (said e.answer) → Moments K s (cuts_after ks e) h → Moments K s ks (e ∷ h)
  more_moments ks e h a m zero d lt = a
  more_moments ks e h a m (suc i) d lt = m i d (omega arith)

  pub moments_push : (ks : List Cut) (h : List Event) (e : Event) → Moments K s ks h → CallSays K s (cuts_from ks h) e.call (said e.answer) → Moments K s ks (h ++ e ∷ [])
  moments_push ks [] e m a = more_moments ks e [] a (λ i d lt. absurd (omega arith))
  moments_push ks (x ∷ h) e m a = more_moments ks x (h ++ e ∷ []) (first_moment ks x h m) (moments_push (cuts_after ks x) h e (later_moments ks x h m) a)

  pub standing_push : (ks : List Cut) (h : List Event) (e : Event) (before between after : List L) → StandingFrom K s ks h before between
      → StandingAfter (succeeds (said e.answer)) K (held_at s (cuts_from ks h)) s.opened s.rules (cuts_from ks h) e.call.ask between after
      → StandingFrom K s ks (h ++ e ∷ []) before after
  standing_push ks [] e before between after p q =
      (after, subst (λ v. StandingAfter (succeeds (said e.answer)) K (held_at s ks) s.opened s.rules ks e.call.ask v after) p q, refl)
  standing_push ks (x ∷ h) e before between after p q = (p.0, p.1, standing_push (cuts_after ks x) h e p.0 between after p.2 q)

  pub group_push : (ks : List Cut) (h : List Event) (e : Event) (before between after : List ℕ) → GroupFrom K s ks h before between
      → GroupBy K (held_at s (cuts_from ks h)) s.opened s.rules (cuts_from ks h) e.call.ask (said e.answer) between after
      → GroupFrom K s ks (h ++ e ∷ []) before after
  group_push ks [] e before between after p q =
      (after, subst (λ v. GroupBy K (held_at s ks) s.opened s.rules ks e.call.ask (said e.answer) v after) p q, refl)
  group_push ks (x ∷ h) e before between after p q = (p.0, p.1, group_push (cuts_after ks x) h e p.0 between after p.2 q)

  -- without some of its trials a lawful history is lawful, with the same cuts and stage
  pub trials_out : (ks : List Cut) (st : Closed) {h h' : List Event} → TrialsOut h h' → Moments K s ks h
      → Moments K s ks h' × (cuts_from ks h' ≡ cuts_from ks h) × (stage_from st h' ≡ stage_from st h)
  trials_out ks st none m = (m, refl, refl)
  trials_out ks st (kept {e} {h} {h'} t) m =
      let r = trials_out (cuts_after ks e) (stage_after st e) t (later_moments ks e h m) in
      (more_moments ks e h' (first_moment ks e h m) r.0, r.1, r.2)
  trials_out ks st (out {e} {h} {h'} job place p t) m =
      let c = trial_cuts ks e job place p in
      let d = trial_stage st e job place p in
      let r = trials_out ks st t (subst (λ k. Moments K s k h) c (later_moments ks e h m)) in
      (r.0, r.1 ∙ ap (λ k. cuts_from k h) (sym c), r.2 ∙ ap (λ k. stage_from k h) (sym d))

  -- a trial writes neither standing lists nor groups
  trial_stood : (t : Bool) (ks : List Cut) (a : Ask) (job place : ℕ) (before after : List L) → a ≡ Trial job place
      → StandingAfter t K (held_at s ks) s.opened s.rules ks a before after → after ≡ before
  trial_stood true ks a job place before after e p = subst (λ v. StandingAfter true K (held_at s ks) s.opened s.rules ks v before after → after ≡ before) (sym e) (λ p. p) p
  trial_stood false ks a job place before after e p = p

  trial_grouped : (ks : List Cut) (a : Ask) (x : Said) (job place : ℕ) (before after : List ℕ) → a ≡ Trial job place
      → GroupBy K (held_at s ks) s.opened s.rules ks a x before after → after ≡ before
  trial_grouped ks a x job place before after e = subst (λ v. GroupBy K (held_at s ks) s.opened s.rules ks v x before after → after ≡ before) (sym e) (λ p. p)

  pub standing_out : (ks : List Cut) {h h' : List Event} (before after : List L) → TrialsOut h h' → StandingFrom K s ks h before after → StandingFrom K s ks h' before after
  standing_out ks before after none p = p
  standing_out ks before after (kept {e} {h} {h'} t) p = (p.0, p.1, standing_out (cuts_after ks e) p.0 after t p.2)
  standing_out ks before after (out {e} {h} {h'} job place q t) p =
      let same : p.0 ≡ before = trial_stood (succeeds (said e.answer)) ks e.call.ask job place before p.0 q p.1 in
      standing_out ks before after t
      (subst (λ k. StandingFrom K s k h before after) (trial_cuts ks e job place q) (subst (λ v. StandingFrom K s (cuts_after ks e) h v after) same p.2))

  pub group_out : (ks : List Cut) {h h' : List Event} (before after : List ℕ) → TrialsOut h h' → GroupFrom K s ks h before after → GroupFrom K s ks h' before after
  group_out ks before after none p = p
  group_out ks before after (kept {e} {h} {h'} t) p = (p.0, p.1, group_out (cuts_after ks e) p.0 after t p.2)
  group_out ks before after (out {e} {h} {h'} job place q t) p =
      let same : p.0 ≡ before = trial_grouped ks e.call.ask (said e.answer) job place before p.0 q p.1 in
      group_out ks before after t
      (subst (λ k. GroupFrom K s k h before after) (trial_cuts ks e job place q) (subst (λ v. GroupFrom K s (cuts_after ks e) h v after) same p.2))

  -- the calls determine the answers
  pub same_answers : (ks : List Cut) (h h' : List Event) → Moments K s ks h → Moments K s ks h' → calls_of h ≡ calls_of h' → answers_of h ≡ answers_of h'
  same_answers ks [] [] m m' p = refl
  same_answers ks [] (e ∷ h) m m' p = absurd cc
  same_answers ks (e ∷ h) [] m m' p = absurd cc
  same_answers ks (e ∷ h) (e' ∷ h') m m' p =
      let pc : e.call ≡ e'.call = cc in
      let pr : calls_of h ≡ calls_of h' = cc in
      let a : said e.answer ≡ said e'.answer =
      ask_one K (held_at s ks) s.opened s.rules ks (lent_to e.call.lent s.tables) e.call.ask (said e.answer) (said e'.answer)
      (first_moment ks e h m) (subst (λ (q : Call). CallSays K s ks q (said e'.answer)) (sym pc) (first_moment ks e' h' m')) in
      let k : cuts_after ks e' ≡ cuts_after ks e =
      sym (ap (λ x. if succeeds x then cuts_by e.call.ask ks else ks) a ∙ ap (λ (q : Call). if succeeds (said e'.answer) then cuts_by q.ask ks else ks) pc) in
      let r : answers_of h ≡ answers_of h' = same_answers (cuts_after ks e) h h' (later_moments ks e h m) (subst (λ x. Moments K s x h') k (later_moments ks e' h' m')) pr in
      cc
