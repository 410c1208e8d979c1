-- The law of a day: what the calls on a closed board and their answers say of its cuts, log, stage, standing lists and group table.
use Rattle.std.specs.Prelude.{◌≡◌, ℕ, ◌<◌, ◌≤◌, min, if◌then◌else◌, List, [], ◌∷◌, ◌++◌, map, length, take, Option, slice_index_or}
use Rattle.refusals.specs.Codes.{Code}
use Rattle.places.specs.Families.{Family, family}
use Rattle.cuts.specs.Current.{current}
use Rattle.cuts.specs.declared.cut.Cut.{Cut}
use Rattle.board.specs.Book.{Held, cut_refusal, return_refusal, settle_refusal, trial_refusal, group_refusal}
use Rattle.board.specs.Outcomes.{lengths}
use Rattle.board.specs.declared.lengths.Lengths.{Lengths}
use Rattle.board.specs.declared.stage.Closed.{Closed}
use Rattle.board.specs.declared.stage.Closed.TheVariants.{AtWork}
use Rattle.history.specs.declared.event.Ask.{Ask}
use Rattle.history.specs.declared.event.Ask.TheVariants.{Cut as CutOf, Return, Trial, Group, Settle}
use Rattle.history.specs.declared.event.Call.{Call}
use Rattle.history.specs.declared.event.Event.{Event}
use Rattle.history.specs.Calls.{Kinds, Said, said, succeeds, AskSays, log_by, stage_by, StandingAfter, GroupBy}

-- what a day does not change: the number of jobs, the bed width, the opened table, the accepted rules in order, and how long the
-- whole tables are
pub record Setting (L R : Type 0) : Type 0 where
  pub jobs : ℕ
  pub width : ℕ
  pub opened : List L
  pub rules : List R
  pub tables : Lengths

abbrev pub setting : {L R : Type 0} → ℕ → ℕ → List L → List R → Lengths → Setting L R
setting n w opened rules tables = record { jobs = n; width = w; opened = opened; rules = rules; tables = tables }

-- what the board holds where these cuts are counted
abbrev pub held_at : {L R : Type 0} → Setting L R → List Cut → Held
held_at s ks = record { jobs = s.jobs; width = s.width; rules = length s.rules; cuts = length ks }

-- of each table the front that a call is lent: as much as the call asks for, and the whole table where that is shorter
abbrev pub lent_to : Lengths → Lengths → Lengths
lent_to l t =
    lengths (min l.opened t.opened) (min l.rules t.rules) (min l.log t.log) (min l.standing t.standing)
    (min l.group t.group) (min l.working t.working) (min l.numbers t.numbers) (min l.wakes t.wakes)

-- the current lists: the opened lists with these cuts carried out
abbrev pub current_by : {L R : Type 0} → Kinds L R → Setting L R → List Cut → Family
current_by K s ks = current (family K.has (take s.jobs s.opened)) ks

-- what a call says where these cuts are counted
abbrev pub CallSays : {L R : Type 0} → Kinds L R → Setting L R → List Cut → Call → Said → Type 0
CallSays K s ks c x = AskSays K (held_at s ks) s.opened s.rules ks (lent_to c.lent s.tables) c.ask x

-- the refusal that the book gives such a call, 20 apart
abbrev pub book : {L R : Type 0} → Kinds L R → Held → List L → List R → List Cut → Lengths → Ask → Option Code
book K b opened rules cuts l (CutOf action job place) = cut_refusal b l.log job place
book K b opened rules cuts l (Return k) = return_refusal b l.log k
book K b opened rules cuts l (Trial job place) = trial_refusal K.has K.limit K.lawful b opened rules cuts l job place
book K b opened rules cuts l (Group rule) = group_refusal K.has K.limit K.lawful K.names b opened rules cuts l rule
book K b opened rules cuts l Settle = settle_refusal K.has K.limit K.lawful b opened rules cuts l

-- the cuts after a call that was carried out: a cut goes last, a return keeps the first k
abbrev pub cuts_by : Ask → List Cut → List Cut
cuts_by (CutOf action job place) ks = ks ++ record { action = action; job = job; place = place } ∷ []
cuts_by (Return k) ks = take k ks
cuts_by (Trial job place) ks = ks
cuts_by (Group rule) ks = ks
cuts_by Settle ks = ks

-- the counted cuts, the log and the stage after a call: as before where it was refused
abbrev pub cuts_after : List Cut → Event → List Cut
cuts_after ks e = if succeeds (said e.answer) then cuts_by e.call.ask ks else ks

abbrev pub log_after : List Cut → List Cut → Event → List Cut
log_after ks log e = if succeeds (said e.answer) then log_by e.call.ask (length ks) log else log

abbrev pub stage_after : Closed → Event → Closed
stage_after st e = if succeeds (said e.answer) then stage_by e.call.ask st else st

-- the same after a history, by its calls and answers alone
abbrev pub cuts_from : List Cut → List Event → List Cut
cuts_from ks [] = ks
cuts_from ks (e ∷ h) = cuts_from (cuts_after ks e) h

-- an accepted cut writes the slot past the counted cuts, and nothing else writes
abbrev pub log_from : List Cut → List Cut → List Event → List Cut
log_from ks log [] = log
log_from ks log (e ∷ h) = log_from (cuts_after ks e) (log_after ks log e) h

abbrev pub stage_from : Closed → List Event → Closed
stage_from st [] = st
stage_from st (e ∷ h) = stage_from (stage_after st e) h

-- from a board that was just closed
abbrev pub cuts_of : List Event → List Cut
cuts_of h = cuts_from [] h

abbrev pub stage_of : List Event → Closed
stage_of h = stage_from AtWork h

abbrev pub calls_of : List Event → List Call
calls_of h = map (λ (e : Event). e.call) h

abbrev pub answers_of : List Event → List Said
answers_of h = map (λ (e : Event). said e.answer) h

-- every answer is the defined one, at the cuts that the events before it leave of ks
abbrev pub Moments : {L R : Type 0} → Kinds L R → Setting L R → List Cut → List Event → Type 0
Moments K s ks h = (i : ℕ) (d : Event) → i < length h → CallSays K s (cuts_from ks (take i h)) (slice_index_or h i d).call (said (slice_index_or h i d).answer)

abbrev pub Lawful : {L R : Type 0} → Kinds L R → Setting L R → List Event → Type 0
Lawful K s h = Moments K s [] h

-- a history with some of its trials left out
pub data TrialsOut : List Event → List Event → Type 0 where
  none : TrialsOut [] []
  kept : {e : Event} {h h' : List Event} → TrialsOut h h' → TrialsOut (e ∷ h) (e ∷ h')
  out : {e : Event} {h h' : List Event} (job place : ℕ) → e.call.ask ≡ Trial job place → TrialsOut h h' → TrialsOut (e ∷ h) h'

-- the standing lists, call by call: each accepted settling writes the greatest consistent family inside the current lists of its
-- moment, and nothing else writes
abbrev pub StandingFrom : {L R : Type 0} → Kinds L R → Setting L R → List Cut → List Event → List L → List L → Type 0
StandingFrom K s ks [] before after = after ≡ before
StandingFrom {L} K s ks (e ∷ h) before after =
    (next : List L) × StandingAfter (succeeds (said e.answer)) K (held_at s ks) s.opened s.rules ks e.call.ask before next
    × StandingFrom K s (cuts_after ks e) h next after

-- the group table, call by call: each answered group question writes the group of its moment to the front, and nothing else writes
abbrev pub GroupFrom : {L R : Type 0} → Kinds L R → Setting L R → List Cut → List Event → List ℕ → List ℕ → Type 0
GroupFrom K s ks [] before after = after ≡ before
GroupFrom K s ks (e ∷ h) before after =
    (next : List ℕ) × GroupBy K (held_at s ks) s.opened s.rules ks e.call.ask (said e.answer) before next
    × GroupFrom K s (cuts_after ks e) h next after

-- One call of a day on the whole tables: ks are the counted cuts before it, and the log's front after it holds those that it leaves.
pub record Stepped {L R : Type 0} (K : Kinds L R) (s : Setting L R) (ks log : List Cut) (st : Closed) (standing : List L) (group : List ℕ) (e : Event) (cuts' : ℕ) (log' : List Cut) (st' : Closed) (standing' : List L) (group' : List ℕ) : Type 0 where
  pub answer : CallSays K s ks e.call (said e.answer)
  pub counted : take cuts' log' ≡ cuts_after ks e
  pub room : cuts' ≤ length log'
  pub logged : log' ≡ log_after ks log e
  pub staged : st' ≡ stage_after st e
  pub stood : StandingAfter (succeeds (said e.answer)) K (held_at s ks) s.opened s.rules ks e.call.ask standing standing'
  pub grouping : GroupBy K (held_at s ks) s.opened s.rules ks e.call.ask (said e.answer) group group'
