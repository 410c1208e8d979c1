-- A run: the events of a day, from the closing of the board on, and what they leave.
use Rattle.std.specs.Prelude.{◌≡◌, ℕ, ◌<◌, ◌⊎◌, List, [], length, take, drop, Some, None, Option, slice_index_or}
use Rattle.refusals.specs.Codes.{Code, code}
use Rattle.places.specs.Families.{family, fixed}
use Rattle.cuts.specs.declared.cut.Cut.{Cut}
use Rattle.settling.specs.Consistency.{Settled, Complete, ShortAt, KeepsPlacings}
use Rattle.board.specs.Book.{named_at}
use Rattle.board.specs.declared.stage.Closed.{Closed}
use Rattle.board.specs.declared.stage.Closed.TheVariants.{Settled as IsSettled}
use Rattle.history.specs.declared.event.Ask.TheVariants.{Trial, Group, Settle}
use Rattle.history.specs.declared.event.Event.{Event}
use Rattle.history.specs.Calls.{Kinds, said, done, refused, TrialSaid, GroupSaid}
use Rattle.history.specs.History.{Setting, held_at, lent_to, current_by, book, cuts_of, stage_of, log_from, calls_of, answers_of, Lawful, TrialsOut, StandingFrom, GroupFrom}

-- the cuts that are counted when the event at i is carried out
abbrev pub cuts_at : List Event → ℕ → List Cut
cuts_at h i = cuts_of (take i h)

-- the refusal that the book gives the event e at i, 20 apart
abbrev pub book_at : {L R : Type 0} → Kinds L R → Setting L R → List Event → ℕ → Event → Option Code
book_at K s h i e = book K (held_at s (cuts_at h i)) s.opened s.rules (cuts_at h i) (lent_to e.call.lent s.tables) e.call.ask

-- the greatest consistent family inside the current lists of the event at i leaves every job a place; j is the lowest that it leaves none
abbrev pub CompleteAt : {L R : Type 0} → Kinds L R → Setting L R → List Event → ℕ → Type 0
CompleteAt K s h i = Complete K.scope K.admits s.rules s.jobs (current_by K s (cuts_at h i))

abbrev pub LowestAt : {L R : Type 0} → Kinds L R → Setting L R → List Event → ℕ → ℕ → Type 0
LowestAt K s h i j = ShortAt K.scope K.admits s.rules s.jobs (current_by K s (cuts_at h i)) j

-- every refusal is the one of the book, or a settling's 20, and what the book refuses is refused so
abbrev pub Refusals : {L R : Type 0} → Kinds L R → Setting L R → List Event → Type 0
Refusals K s h = (i : ℕ) (d : Event) → i < length h → (c : Code)
    → (book_at K s h i (slice_index_or h i d) ≡ Some c → said (slice_index_or h i d).answer ≡ refused c)
    × (said (slice_index_or h i d).answer ≡ refused c → (book_at K s h i (slice_index_or h i d) ≡ Some c)
    ⊎ ((book_at K s h i (slice_index_or h i d) ≡ None) × ((slice_index_or h i d).call.ask ≡ Settle) × ((j : ℕ) × (c ≡ code 20 j) × LowestAt K s h i j)))

-- a settling that the book does not refuse is done exactly where every job is left a place, and names the lowest job that is left none
abbrev pub Settlings : {L R : Type 0} → Kinds L R → Setting L R → List Event → Type 0
Settlings K s h = (i : ℕ) (d : Event) → i < length h → (slice_index_or h i d).call.ask ≡ Settle
    → (said (slice_index_or h i d).answer ≡ done → (book_at K s h i (slice_index_or h i d) ≡ None) × CompleteAt K s h i)
    × (book_at K s h i (slice_index_or h i d) ≡ None → CompleteAt K s h i → said (slice_index_or h i d).answer ≡ done)
    × ((j : ℕ) → book_at K s h i (slice_index_or h i d) ≡ None → LowestAt K s h i j → said (slice_index_or h i d).answer ≡ refused (code 20 j))

-- a trial says yes exactly where the current lists with the job fixed to the place leave every job a place
abbrev pub TrialsRight : {L R : Type 0} → Kinds L R → Setting L R → List Event → Type 0
TrialsRight K s h = (i : ℕ) (d : Event) → i < length h → (job place : ℕ) → (slice_index_or h i d).call.ask ≡ Trial job place
    → TrialSaid K.scope K.admits s.rules s.jobs (fixed job place (current_by K s (cuts_at h i))) (book_at K s h i (slice_index_or h i d)) (said (slice_index_or h i d).answer)

-- a group question gives the number of jobs and the deficiency of the group, in the current lists, of the jobs that the rule names
abbrev pub GroupsRight : {L R : Type 0} → Kinds L R → Setting L R → List Event → Type 0
GroupsRight K s h = (i : ℕ) (d : Event) → i < length h → (rule : ℕ) → (slice_index_or h i d).call.ask ≡ Group rule
    → GroupSaid K.limit (current_by K s (cuts_at h i)) (named_at K.names s.rules rule) (book_at K s h i (slice_index_or h i d)) (said (slice_index_or h i d).answer)

-- another history h' is lawful too, and leaves the same cuts, log, stage, standing lists and group table
pub record SameDay {L R : Type 0} (K : Kinds L R) (s : Setting L R) (h h' : List Event) (log : List Cut) (lists lists' : List L) (table table' : List ℕ) : Type 0 where
  pub lawful : Lawful K s h'
  pub counted : cuts_of h' ≡ cuts_of h
  pub logged : log_from [] log h' ≡ log_from [] log h
  pub staged : stage_of h' ≡ stage_of h
  pub standing : StandingFrom K s [] h' lists lists'
  pub grouping : GroupFrom K s [] h' table table'

-- The calls `asked` were carried out, and h has them with their answers.
pub record Run {L R : Type 0} (K : Kinds L R) (s : Setting L R) (asked h : List Event) (cuts : ℕ) (log log' : List Cut) (stage : Closed) (lists lists' : List L) (table table' : List ℕ) : Type 0 where
  -- only answers are written
  pub calls : calls_of h ≡ calls_of asked
  -- cuts, log and stage are what the calls and their answers say
  pub number : cuts ≡ length (cuts_of h)
  pub counted : take cuts log' ≡ cuts_of h
  pub logged : log' ≡ log_from [] log h
  pub staged : stage ≡ stage_of h
  -- every answer is the defined one at its moment
  pub answers : Lawful K s h
  pub refusals : Refusals K s h
  pub settlings : Settlings K s h
  pub trials_right : TrialsRight K s h
  pub groups : GroupsRight K s h
  -- the standing lists of a settled board are the greatest consistent family inside its current lists, and hold every whole placing
  pub standing : StandingFrom K s [] h lists lists'
  pub settled : stage_of h ≡ IsSettled → Settled K.scope K.admits s.rules (current_by K s (cuts_of h)) (family K.has (take s.jobs lists'))
  pub placings : stage_of h ≡ IsSettled → KeepsPlacings K.scope K.admits s.rules s.jobs (current_by K s (cuts_of h)) (family K.has (take s.jobs lists'))
  pub past : drop s.jobs lists' ≡ drop s.jobs lists
  pub grouping : GroupFrom K s [] h table table'
  -- trials can be left out
  pub trials : (h' : List Event) → TrialsOut h h' → SameDay K s h h' log lists lists' table table'
  -- the calls determine the answers
  pub determined : (h' : List Event) → Lawful K s h' → calls_of h' ≡ calls_of h → answers_of h' ≡ answers_of h
