-- The book: which refusal each call of a board gives, by the numbers that the board holds and the tables that the call is lent.
-- A list kind is given by `has` and its limit, a rule kind by `lawful`.
use Rattle.std.specs.Prelude.{◌≡◌, ℕ, ◌+◌, ◌*◌, ◌≤◌, Bool, true, not, ◌||◌, List, [], ◌∷◌, ◌++◌, length, take, is_some, Option, ◌==◌, nat_le, nat_lt}
use Rattle.std.specs.List.{AllByRecursion, slice_get}
use Rattle.std.specs.Option.{option_and_then}
use Rattle.refusals.specs.Codes.{Code, then_check, fails_if, first_fault}
use Rattle.rules.specs.Refusals.{no_board, unlawful}
use Rattle.rules.specs.declared.progression.Progression.{Progression}
use Rattle.cuts.specs.Checks.{past_width, outside}
use Rattle.cuts.specs.declared.cut.Cut.{Cut}
use Rattle.board.specs.declared.lengths.Lengths.{Lengths}
use Rattle.board.specs.declared.numbers.Numbers.{Numbers}

-- how many jobs a board has, its bed width, and how many rules and cuts its tables hold
pub record Held : Type 0 where
  pub jobs : ℕ
  pub width : ℕ
  pub rules : ℕ
  pub cuts : ℕ

abbrev pub held_by : Numbers → Held
held_by b = record { jobs = b.n; width = b.w; rules = b.rules; cuts = b.cuts }

-- 11: one of the lists holds a place not below w
abbrev pub wide_list : {L : Type 0} → (L → ℕ → Bool) → ℕ → ℕ → List L → Option Code
wide_list has limit w lists = first_fault (λ x. past_width limit w (has x)) 11 0 lists

-- 12: one of the rules is not lawful for n jobs
abbrev pub unlawful_rule : {R : Type 0} → (R → ℕ → Bool) → ℕ → List R → Option Code
unlawful_rule lawful n rules = first_fault (unlawful lawful n) 12 0 rules

-- 13: one of the cuts names a job not below n or a place not below w
abbrev pub outside_cut : ℕ → ℕ → List Cut → Option Code
outside_cut n w cuts = first_fault (outside n w) 13 0 cuts

-- n jobs and bed width w over a table of so many lists: 8, 9, 10
abbrev pub size_refusal : ℕ → ℕ → ℕ → ℕ → Option Code
size_refusal limit n w lists =
    then_check (fails_if (no_board n) 8)
    (then_check (fails_if (w == 0 || nat_lt limit w) 9)
    (fails_if (nat_lt lists n) 10))

-- opening a board of n jobs and bed width w
abbrev pub open_refusal : {L : Type 0} → (L → ℕ → Bool) → ℕ → ℕ → ℕ → List L → Option Code
open_refusal has limit n w opened = then_check (size_refusal limit n w (length opened)) (wide_list has limit w (take n opened))

-- adding a rule, which is checked as the next one after those held
abbrev pub add_refusal : {R : Type 0} → (R → ℕ → Bool) → Held → List R → R → Option Code
add_refusal lawful b rules rule =
    then_check (fails_if (nat_lt (length rules) b.rules) 10)
    (then_check (unlawful_rule lawful b.jobs (take b.rules rules ++ rule ∷ []))
    (fails_if (nat_le (length rules) b.rules || nat_le 64 b.rules) 16))

-- closing
abbrev pub close_refusal : {L R : Type 0} → (L → ℕ → Bool) → ℕ → (R → ℕ → Bool) → Held → List L → List R → Option Code
close_refusal has limit lawful b opened rules =
    then_check (fails_if (nat_lt (length opened) b.jobs || nat_lt (length rules) b.rules) 10)
    (then_check (wide_list has limit b.width (take b.jobs opened))
    (unlawful_rule lawful b.jobs (take b.rules rules)))

-- the job and the place given to a cut or a trial, and room for it in a log of so many slots
abbrev pub room_refusal : Held → ℕ → ℕ → ℕ → Option Code
room_refusal b log job place =
    then_check (fails_if (nat_le b.jobs job) 14)
    (then_check (fails_if (nat_le b.width place) 15)
    (fails_if (nat_le log b.cuts || nat_le 1024 b.cuts) 16))

-- a cut of a job and a place
abbrev pub cut_refusal : Held → ℕ → ℕ → ℕ → Option Code
cut_refusal b log job place = then_check (fails_if (nat_lt log b.cuts) 10) (room_refusal b log job place)

-- a return to k cuts
abbrev pub return_refusal : Held → ℕ → ℕ → Option Code
return_refusal b log k = then_check (fails_if (nat_lt log b.cuts) 10) (fails_if (nat_lt b.cuts k) 17)

-- reading the standing lists
abbrev pub standing_refusal : Held → ℕ → Option Code
standing_refusal b standing = fails_if (nat_lt standing b.jobs) 10

-- opened lists, rules, log or working memory are too short
abbrev pub short_tables : ℕ → Held → Lengths → Bool
short_tables limit b l =
    nat_lt l.opened b.jobs || (nat_lt l.rules b.rules || (nat_lt l.log b.cuts
    || (nat_lt l.working b.jobs || (nat_lt l.numbers (8 * (b.jobs + limit)) || nat_lt l.wakes b.rules))))

-- what the first lists, rules and cuts of these tables hold: 11, 12, 13
abbrev pub held_refusal : {L R : Type 0} → (L → ℕ → Bool) → ℕ → (R → ℕ → Bool) → Held → List L → List R → List Cut → Option Code
held_refusal has limit lawful b opened rules log =
    then_check (wide_list has limit b.width (take b.jobs opened))
    (then_check (unlawful_rule lawful b.jobs (take b.rules rules))
    (outside_cut b.jobs b.width (take b.cuts log)))

-- a settling, but for 20
abbrev pub settle_refusal : {L R : Type 0} → (L → ℕ → Bool) → ℕ → (R → ℕ → Bool) → Held → List L → List R → List Cut → Lengths → Option Code
settle_refusal has limit lawful b opened rules log l =
    then_check (fails_if (short_tables limit b l || nat_lt l.standing b.jobs) 10) (held_refusal has limit lawful b opened rules log)

-- a trial of a job and a place
abbrev pub trial_refusal : {L R : Type 0} → (L → ℕ → Bool) → ℕ → (R → ℕ → Bool) → Held → List L → List R → List Cut → Lengths → ℕ → ℕ → Option Code
trial_refusal has limit lawful b opened rules log l job place =
    then_check (fails_if (short_tables limit b l) 10)
    (then_check (held_refusal has limit lawful b opened rules log) (room_refusal b l.log job place))

-- the progression that a rule names, if there is such a rule
abbrev pub named_at : {R : Type 0} → (R → Option Progression) → List R → ℕ → Option Progression
named_at names rules i = option_and_then names (slice_get rules i)

-- a group question about a rule
abbrev pub group_refusal : {L R : Type 0} → (L → ℕ → Bool) → ℕ → (R → ℕ → Bool) → (R → Option Progression) → Held → List L → List R → List Cut → Lengths → ℕ → Option Code
group_refusal has limit lawful names b opened rules log l rule =
    then_check (fails_if (short_tables limit b l || nat_lt l.group b.jobs) 10)
    (then_check (held_refusal has limit lawful b opened rules log)
    (fails_if (not (is_some (named_at names (take b.rules rules) rule))) 18))

-- a closed board over tables that already hold its lists, rules and cuts
abbrev pub resume_refusal : {L R : Type 0} → (L → ℕ → Bool) → ℕ → (R → ℕ → Bool) → Held → List L → List R → List Cut → Option Code
resume_refusal has limit lawful b opened rules log =
    then_check (size_refusal limit b.jobs b.width (length opened))
    (then_check (fails_if (nat_lt (length rules) b.rules || nat_lt (length log) b.cuts) 10)
    (then_check (fails_if (nat_lt 64 b.rules || nat_lt 1024 b.cuts) 16)
    (held_refusal has limit lawful b opened rules log)))

-- tables that a board goes on with: 10 to 13
abbrev pub tables_refusal : {L R : Type 0} → (L → ℕ → Bool) → ℕ → (R → ℕ → Bool) → Held → List L → List R → List Cut → Option Code
tables_refusal has limit lawful b opened rules log =
    then_check (fails_if (nat_lt (length opened) b.jobs || (nat_lt (length rules) b.rules || nat_lt (length log) b.cuts)) 10)
    (held_refusal has limit lawful b opened rules log)

-- what the checks of tables and held rules make sure of
pub record Ready {R : Type 0} (limit : ℕ) (lawful : R → ℕ → Bool) (b : Held) (rules : List R) (l : Lengths) : Type 0 where
  pub opened : b.jobs ≤ l.opened
  pub held : b.rules ≤ l.rules
  pub counted : b.cuts ≤ l.log
  pub working : b.jobs ≤ l.working
  pub numbers : 8 * (b.jobs + limit) ≤ l.numbers
  pub wakes : b.rules ≤ l.wakes
  pub all_lawful : AllByRecursion (λ r. lawful r b.jobs ≡ true) (take b.rules rules)
