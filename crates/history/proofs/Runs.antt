-- A run, event by event.
use Rattle.std.proofs.Common.{◌≡◌, ℕ, ◌+◌, ◌<◌, ◌≤◌, Bool, true, false, if◌then◌else◌, List, [], ◌∷◌, ◌++◌, length, get_or, take, drop, set, sym, ap, ◌∙◌, subst}
use Rattle.std.proofs.lemmas.List.{take_more_set, take_all, length-take-le}
use Rattle.places.specs.Families.{family}
use Rattle.cuts.specs.declared.cut.Cut.{Cut}
use Rattle.settling.specs.Consistency.{Settled, KeepsPlacings}
use Rattle.board.specs.declared.lengths.Lengths.{Lengths}
use Rattle.board.specs.declared.stage.Closed.{Closed}
use Rattle.board.specs.declared.stage.Closed.TheVariants.{AtWork, Settled as IsSettled}
use Rattle.history.specs.declared.event.Ask.{Ask}
use Rattle.history.specs.declared.event.Ask.TheVariants.{Cut as CutOf, Return, Trial, Group, Settle}
use Rattle.history.specs.declared.event.Event.{Event}
use Rattle.history.specs.Calls.{Kinds, said, succeeds, stage_by, StandingAfter}
use Rattle.history.specs.History.{Setting, setting, held_at, lent_to, current_by, cuts_by, cuts_of, stage_of, log_after, stage_after, log_from, calls_of, Lawful, StandingFrom, GroupFrom, Stepped}
use Rattle.history.specs.Runs.{cuts_at, Run}
use Rattle.history.proofs.Histories.{cuts_push, log_push, stage_push, same_calls, moments_push, standing_push, group_push, trials_out, log_out, standing_out, group_out, same_answers}
use Rattle.history.proofs.Moments.{book_refuses, refused_by_book, settling_right, trial_right, group_right, stands_here}

module _ {L R : Type 0} (K : Kinds L R) (s : Setting L R) where
  -- the first standing lists are the greatest consistent family inside the current lists
  pub record StandsAt (ks : List Cut) (lists : List L) : Type 0 where
    pub settled : Settled K.scope K.admits s.rules (current_by K s ks) (family K.has (take s.jobs lists))
    pub placings : KeepsPlacings K.scope K.admits s.rules s.jobs (current_by K s ks) (family K.has (take s.jobs lists))

  -- one call more on a settled board
  stands_more : (t : Bool) (a : Ask) (ks : List Cut) (st : Closed) (lists lists' : List L) → (st ≡ IsSettled → StandsAt ks lists)
      → StandingAfter t K (held_at s ks) s.opened s.rules ks a lists lists' → (if t then stage_by a st else st) ≡ IsSettled → StandsAt (if t then cuts_by a ks else ks) lists'
  stands_more true (CutOf action job place) ks st lists lists' h e p = absurd cc
  stands_more true (Return k) ks st lists lists' h e p = absurd cc
  stands_more true (Trial job place) ks st lists lists' h e p = subst (StandsAt ks) (sym e) (h p)
  stands_more true (Group rule) ks st lists lists' h e p = subst (StandsAt ks) (sym e) (h p)
  stands_more true Settle ks st lists lists' h e p =
      let now = stands_here K s ks lists lists' e in
      record { settled = now.settled; placings = now.placings }
  stands_more false a ks st lists lists' h e p = subst (StandsAt ks) (sym e) (h p)

  -- lists past the jobs are never written
  past_more : (t : Bool) (a : Ask) (ks : List Cut) (lists lists' : List L)
      → StandingAfter t K (held_at s ks) s.opened s.rules ks a lists lists' → drop s.jobs lists' ≡ drop s.jobs lists
  past_more true (CutOf action job place) ks lists lists' e = ap (drop s.jobs) e
  past_more true (Return k) ks lists lists' e = ap (drop s.jobs) e
  past_more true (Trial job place) ks lists lists' e = ap (drop s.jobs) e
  past_more true (Group rule) ks lists lists' e = ap (drop s.jobs) e
  past_more true Settle ks lists lists' e = e.rest
  past_more false a ks lists lists' e = ap (drop s.jobs) e

-- a run after its first i events
pub record InRun {L R : Type 0} (K : Kinds L R) (s : Setting L R) (asked events : List Event) (i cuts : ℕ) (log₀ log : List Cut) (st : Closed) (lists₀ lists : List L) (table₀ table : List ℕ) : Type 0 where
  pub calls : calls_of events ≡ calls_of asked
  pub room : cuts ≤ length log
  pub counted : take cuts log ≡ cuts_at events i
  pub logged : log ≡ log_from [] log₀ (take i events)
  pub staged : st ≡ stage_of (take i events)
  pub answers : Lawful K s (take i events)
  pub standing : StandingFrom K s [] (take i events) lists₀ lists
  pub stands : st ≡ IsSettled → StandsAt K s (cuts_at events i) lists
  pub past : drop s.jobs lists ≡ drop s.jobs lists₀
  pub grouping : GroupFrom K s [] (take i events) table₀ table

module _ {L R : Type 0} (K : Kinds L R) (s : Setting L R) (asked events : List Event) where
  pub in_run_more : (s' : Setting L R) (i cuts cuts' : ℕ) (log₀ log log' : List Cut) (st st' : Closed) (lists₀ lists lists' : List L) (table₀ table table' : List ℕ) (e d : Event)
      → InRun K s asked events i cuts log₀ log st lists₀ lists table₀ table → i < length events → e.call ≡ (get_or events i d).call
      → s' ≡ s → Stepped K s' (take cuts log) log st lists table e cuts' log' st' lists' table'
      → InRun K s asked (set events i e) (i + 1) cuts' log₀ log' st' lists₀ lists' table₀ table'
  in_run_more s' i cuts cuts' log₀ log log' st st' lists₀ lists lists' table₀ table table' e d r lt p same one =
      let h : List Event = take i events in
      let there : Stepped K s (take cuts log) log st lists table e cuts' log' st' lists' table' = subst (λ v. Stepped K v (take cuts log) log st lists table e cuts' log' st' lists' table') same one in
      let now : Stepped K s (cuts_of h) log st lists table e cuts' log' st' lists' table' = subst (λ v. Stepped K s v log st lists table e cuts' log' st' lists' table') r.counted there in
      let t : take (i + 1) (set events i e) ≡ h ++ e ∷ [] = take_more_set events i e lt in
      let k = sym (cuts_push [] h e) ∙ ap cuts_of (sym t) in
      record {
        calls = same_calls events i e d p lt ∙ r.calls;
        room = now.room;
        counted = now.counted ∙ k;
        logged = now.logged ∙ ap (λ v. log_after (cuts_of h) v e) r.logged ∙ sym (log_push [] log₀ h e) ∙ ap (log_from [] log₀) (sym t);
        staged = now.staged ∙ ap (λ v. stage_after v e) r.staged ∙ sym (stage_push AtWork h e) ∙ ap stage_of (sym t);
        answers = subst (Lawful K s) (sym t) (moments_push K s [] h e r.answers now.answer);
        standing = subst (λ v. StandingFrom K s [] v lists₀ lists') (sym t) (standing_push K s [] h e lists₀ lists lists' r.standing now.stood);
        stands = λ q. subst (λ v. StandsAt K s v lists') k (stands_more K s (succeeds (said e.answer)) e.call.ask (cuts_of h) st lists lists' r.stands now.stood (sym now.staged ∙ q));
        past = past_more K s (succeeds (said e.answer)) e.call.ask (cuts_of h) lists lists' now.stood ∙ r.past;
        grouping = subst (λ v. GroupFrom K s [] v table₀ table') (sym t) (group_push K s [] h e table₀ table table' r.grouping now.grouping);
      }

  pub in_run_all : (i cuts : ℕ) (log₀ log : List Cut) (st : Closed) (lists₀ lists : List L) (table₀ table : List ℕ)
      → InRun K s asked events i cuts log₀ log st lists₀ lists table₀ table → length events ≤ i → Run K s asked events cuts log₀ log st lists₀ lists table₀ table
  in_run_all i cuts log₀ log st lists₀ lists table₀ table r le =
      let t : take i events ≡ events = take_all i events le in
      let lawful : Lawful K s events = subst (Lawful K s) t r.answers in
      let k = r.counted ∙ ap cuts_of t in
      let st-is = r.staged ∙ ap stage_of t in
      let stood : StandingFrom K s [] events lists₀ lists = subst (λ v. StandingFrom K s [] v lists₀ lists) t r.standing in
      let groups : GroupFrom K s [] events table₀ table = subst (λ v. GroupFrom K s [] v table₀ table) t r.grouping in
      record {
        calls = r.calls;
        number = sym (length-take-le cuts log r.room) ∙ ap length k;
        counted = k;
        logged = r.logged ∙ ap (log_from [] log₀) t;
        staged = st-is;
        answers = lawful;
        refusals = λ j d lt c. (
          λ p. book_refuses K s (cuts_at events j) (lent_to (get_or events j d).call.lent s.tables) (said (get_or events j d).answer) (get_or events j d).call.ask c p (lawful j d lt),
          λ p. refused_by_book K s (cuts_at events j) (lent_to (get_or events j d).call.lent s.tables) (said (get_or events j d).answer) (get_or events j d).call.ask c p (lawful j d lt),
        );
        settlings = λ j d lt p. settling_right K s (cuts_at events j) (lent_to (get_or events j d).call.lent s.tables) (said (get_or events j d).answer) (get_or events j d).call.ask p (lawful j d lt);
        trials_right = λ j d lt job place p. trial_right K s (cuts_at events j) (lent_to (get_or events j d).call.lent s.tables) (said (get_or events j d).answer) (get_or events j d).call.ask job place p (lawful j d lt);
        groups = λ j d lt rule p. group_right K s (cuts_at events j) (lent_to (get_or events j d).call.lent s.tables) (said (get_or events j d).answer) (get_or events j d).call.ask rule p (lawful j d lt);
        standing = stood;
        settled = λ p. (subst (λ v. StandsAt K s v lists) (ap cuts_of t) (r.stands (st-is ∙ p))).settled;
        placings = λ p. (subst (λ v. StandsAt K s v lists) (ap cuts_of t) (r.stands (st-is ∙ p))).placings;
        past = r.past;
        grouping = groups;
        trials = λ h' w.
            let o = trials_out K s [] AtWork w lawful in
            record {
              lawful = o.0;
              counted = o.1;
              logged = log_out [] log₀ w;
              staged = o.2;
              standing = standing_out K s [] lists₀ lists w stood;
              grouping = group_out K s [] table₀ table w groups;
            };
        determined = λ h' m p. same_answers K s [] h' events m lawful p;
      }

-- settings with the same numbers and lengths are the same
pub setting_same : {L R : Type 0} (n n' w w' k k' : ℕ) (opened : List L) (rules : List R) (t t' : Lengths) → n ≡ n' → w ≡ w' → k ≡ k' → t ≡ t'
    → setting n w opened (take k rules) t ≡ setting n' w' opened (take k' rules) t'
setting_same n n' w w' k k' opened rules t t' a b c d = λ i. record { jobs = a i; width = b i; opened = opened; rules = take (c i) rules; tables = d i }
