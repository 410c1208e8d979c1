-- What calls answer, and what they leave of a board and its tables.
use Rattle.std.specs.Prelude.{◌≡◌, ℕ, Some, None, Ok, Err, Option, Result}
use Rattle.refusals.specs.Codes.{Code, says}
use Rattle.board.specs.declared.numbers.Numbers.{Numbers}
use Rattle.board.specs.declared.board.Rejected.{Rejected}
use Rattle.board.specs.declared.lengths.Lengths.{Lengths}
use Rattle.board.specs.Book.{Held}

-- what a call that hands the board back answered: nothing, or its refusal
abbrev pub refusal_back : {T B : Type 0} → Result T (Rejected B) → Option Code
refusal_back (Ok _) = None
refusal_back (Err e) = Some (says e.refusal)

-- a board of n jobs, bed width w, so many rules and so many cuts
abbrev pub held_as : ℕ → ℕ → ℕ → ℕ → Held
held_as n w rules cuts = record { jobs = n; width = w; rules = rules; cuts = cuts }

pub record Holds (n w rules cuts : ℕ) (b : Numbers) : Type 0 where
  pub jobs : b.n ≡ n
  pub width : b.w ≡ w
  pub held : b.rules ≡ rules
  pub counted : b.cuts ≡ cuts

-- a board that was opened for n jobs and bed width w
abbrev pub Opened : ℕ → ℕ → Numbers → Type 0
Opened n w b = Holds n w 0 0 b

-- the same board but for its number of rules or cuts
abbrev pub Same : Numbers → ℕ → ℕ → Numbers → Type 0
Same a rules cuts b = Holds a.n a.w rules cuts b

-- the lengths of tables
abbrev pub lengths : ℕ → ℕ → ℕ → ℕ → ℕ → ℕ → ℕ → ℕ → Lengths
lengths opened rules log standing group working numbers wakes =
    record { opened = opened; rules = rules; log = log; standing = standing; group = group; working = working; numbers = numbers; wakes = wakes }
