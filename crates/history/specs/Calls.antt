-- What one call on a closed board says, at the cuts that are counted then, and what it leaves.
use Rattle.std.specs.Prelude.{◌≡◌, ℕ, ◌+◌, ◌≤◌, Bool, true, false, if◌then◌else◌, List, length, take, drop, Some, None, Option, slice_set}
use Rattle.refusals.specs.Codes.{Code, says}
use Rattle.places.specs.Families.{Family, fixed}
use Rattle.cuts.specs.declared.cut.Cut.{Cut}
use Rattle.rules.specs.Progressions.{jobs_of}
use Rattle.rules.specs.declared.progression.Progression.{Progression}
use Rattle.distinct.specs.Groups.{GroupIs}
use Rattle.settling.specs.Consistency.{Complete}
use Rattle.board.specs.Book.{Held, cut_refusal, return_refusal, settle_refusal, trial_refusal, group_refusal, named_at}
use Rattle.board.specs.Moments.{current_lists, SettleSays, Stands}
use Rattle.board.specs.declared.lengths.Lengths.{Lengths}
use Rattle.board.specs.declared.stage.Closed.{Closed}
use Rattle.board.specs.declared.stage.Closed.TheVariants.{AtWork, Settled}
use Rattle.history.specs.declared.event.Ask.{Ask}
use Rattle.history.specs.declared.event.Ask.TheVariants.{Cut as CutOf, Return, Trial, Group, Settle}
use Rattle.history.specs.declared.event.Answer.{Answer}
use Rattle.history.specs.declared.event.Answer.TheVariants.{Done, Yes, No, Group as GroupOf, Refused}

-- a list kind and a rule kind, by what they mean
pub record Kinds (L R : Type 0) : Type 0 where
  pub has : L → ℕ → Bool
  pub limit : ℕ
  pub scope : R → List ℕ
  pub admits : R → List ℕ → Bool
  pub lawful : R → ℕ → Bool
  pub names : R → Option Progression

abbrev pub kinds : {L R : Type 0} → (L → ℕ → Bool) → ℕ → (R → List ℕ) → (R → List ℕ → Bool) → (R → ℕ → Bool) → (R → Option Progression) → Kinds L R
kinds has limit scope admits lawful names =
    record { has = has; limit = limit; scope = scope; admits = admits; lawful = lawful; names = names }

-- what an answer says
pub data Said : Type 0 where
  done : Said
  yes_said : Said
  no_said : Said
  grouped : ℕ → ℕ → Said
  refused : Code → Said

abbrev pub said : Answer → Said
said Done = done
said Yes = yes_said
said No = no_said
said (GroupOf d) = grouped d.count d.deficiency
said (Refused e) = refused (says e)

-- done, or the refusal that the checks give
abbrev pub outcome : Option Code → Said
outcome None = done
outcome (Some c) = refused c

-- a trial says yes exactly where every job is left a place
abbrev pub TrialSaid : {R : Type 0} → (R → List ℕ) → (R → List ℕ → Bool) → List R → ℕ → Family → Option Code → Said → Type 0
TrialSaid scope admits rules n f checks done = ⊥
TrialSaid scope admits rules n f checks yes_said = (checks ≡ None) × Complete scope admits rules n f
TrialSaid scope admits rules n f checks no_said = (checks ≡ None) × (Complete scope admits rules n f → ⊥)
TrialSaid scope admits rules n f checks (grouped count d) = ⊥
TrialSaid scope admits rules n f checks (refused c) = checks ≡ Some c

-- a group question gives the number of jobs and the deficiency of the group of the jobs that the rule names
abbrev pub GroupSaid : ℕ → Family → Option Progression → Option Code → Said → Type 0
GroupSaid limit f named checks done = ⊥
GroupSaid limit f named checks yes_said = ⊥
GroupSaid limit f named checks no_said = ⊥
GroupSaid limit f named checks (grouped count d) =
    (checks ≡ None) × ((p : Progression) × (named ≡ Some p) × ((jobs : List ℕ) × (length jobs ≡ count) × GroupIs limit f (jobs_of p) jobs d))
GroupSaid limit f named checks (refused c) = checks ≡ Some c

-- What a call says of a board that holds so many jobs, rules and cuts, with these opened lists, rules and cuts, where it is lent tables
-- of these lengths.
abbrev pub AskSays : {L R : Type 0} → Kinds L R → Held → List L → List R → List Cut → Lengths → Ask → Said → Type 0
AskSays K b opened rules cuts l (CutOf action job place) x = x ≡ outcome (cut_refusal b l.log job place)
AskSays K b opened rules cuts l (Return k) x = x ≡ outcome (return_refusal b l.log k)
AskSays K b opened rules cuts l (Trial job place) x =
    TrialSaid K.scope K.admits (take b.rules rules) b.jobs (fixed job place (current_lists K.has b opened cuts))
    (trial_refusal K.has K.limit K.lawful b opened rules cuts l job place) x
AskSays K b opened rules cuts l (Group rule) x =
    GroupSaid K.limit (current_lists K.has b opened cuts) (named_at K.names (take b.rules rules) rule)
    (group_refusal K.has K.limit K.lawful K.names b opened rules cuts l rule) x
AskSays K b opened rules cuts l Settle x =
    (o : Option Code) × (x ≡ outcome o) × SettleSays K.scope K.admits (take b.rules rules) b.jobs (current_lists K.has b opened cuts)
    (settle_refusal K.has K.limit K.lawful b opened rules cuts l) o

-- whether a call was carried out
abbrev pub succeeds : Said → Bool
succeeds done = true
succeeds yes_said = true
succeeds no_said = true
succeeds (grouped count d) = true
succeeds (refused c) = false

-- what a call that was carried out makes of the number of cuts, the log and the stage
abbrev pub count_by : Ask → ℕ → ℕ
count_by (CutOf action job place) held = held + 1
count_by (Return k) held = k
count_by (Trial job place) held = held
count_by (Group rule) held = held
count_by Settle held = held

abbrev pub log_by : Ask → ℕ → List Cut → List Cut
log_by (CutOf action job place) held log = slice_set log held (record { action = action; job = job; place = place })
log_by (Return k) held log = log
log_by (Trial job place) held log = log
log_by (Group rule) held log = log
log_by Settle held log = log

abbrev pub stage_by : Ask → Closed → Closed
stage_by (CutOf action job place) st = AtWork
stage_by (Return k) st = AtWork
stage_by (Trial job place) st = st
stage_by (Group rule) st = st
stage_by Settle st = Settled

-- what it makes of the standing lists: a settling's are the greatest consistent family inside the current lists
abbrev pub StandingBy : {L R : Type 0} → Kinds L R → Held → List L → List R → List Cut → Ask → List L → List L → Type 0
StandingBy K b opened rules cuts (CutOf action job place) before after = after ≡ before
StandingBy K b opened rules cuts (Return k) before after = after ≡ before
StandingBy K b opened rules cuts (Trial job place) before after = after ≡ before
StandingBy K b opened rules cuts (Group rule) before after = after ≡ before
StandingBy K b opened rules cuts Settle before after =
    Stands K.has K.scope K.admits (take b.rules rules) b.jobs (current_lists K.has b opened cuts) before after

-- what it makes of the group table: the group of a group question stands in its front, and the rest is as before
abbrev pub GroupWritten : ℕ → Family → Option Progression → Said → List ℕ → List ℕ → Type 0
GroupWritten limit f named done before after = after ≡ before
GroupWritten limit f named yes_said before after = after ≡ before
GroupWritten limit f named no_said before after = after ≡ before
GroupWritten limit f named (grouped count d) before after =
    (p : Progression) × (named ≡ Some p) × GroupIs limit f (jobs_of p) (take count after) d × (count ≤ length after) × (drop count after ≡ drop count before)
GroupWritten limit f named (refused c) before after = after ≡ before

abbrev pub GroupBy : {L R : Type 0} → Kinds L R → Held → List L → List R → List Cut → Ask → Said → List ℕ → List ℕ → Type 0
GroupBy K b opened rules cuts (CutOf action job place) x before after = after ≡ before
GroupBy K b opened rules cuts (Return k) x before after = after ≡ before
GroupBy K b opened rules cuts (Trial job place) x before after = after ≡ before
GroupBy K b opened rules cuts (Group rule) x before after =
    GroupWritten K.limit (current_lists K.has b opened cuts) (named_at K.names (take b.rules rules) rule) x before after
GroupBy K b opened rules cuts Settle x before after = after ≡ before

abbrev pub StandingAfter : {L R : Type 0} → Bool → Kinds L R → Held → List L → List R → List Cut → Ask → List L → List L → Type 0
StandingAfter true K b opened rules cuts a before after = StandingBy K b opened rules cuts a before after
StandingAfter false K b opened rules cuts a before after = after ≡ before

-- One call on the tables that it is lent, and what it leaves.
pub record Asked {L R : Type 0} (K : Kinds L R) (b : Held) (opened : List L) (rules : List R) (l : Lengths) (a : Ask) (x : Said) (cuts' : ℕ) (log log' : List Cut) (st st' : Closed) (standing standing' : List L) (group group' : List ℕ) : Type 0 where
  pub answer : AskSays K b opened rules log l a x
  pub count : cuts' ≡ if succeeds x then count_by a b.cuts else b.cuts
  pub logged : log' ≡ if succeeds x then log_by a b.cuts log else log
  pub staged : st' ≡ if succeeds x then stage_by a st else st
  pub stood : StandingAfter (succeeds x) K b opened rules log a standing standing'
  pub grouping : GroupBy K b opened rules log a x group group'
