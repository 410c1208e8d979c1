-- A day from the opening of a board on.
use Rattle.std.specs.Prelude.{◌≡◌, ℕ, Bool, List, length, Some, None, Ok, Err, Option, Result}
use Rattle.refusals.specs.Codes.{Code, says}
use Rattle.board.specs.declared.numbers.Numbers.{Numbers}
use Rattle.history.specs.declared.day.DayRefusal.{DayRefusal}
use Rattle.history.specs.declared.day.DayRefusal.TheVariants.{Opening, Closing}
use Rattle.history.specs.declared.offer.Offer.{Offer}
use Rattle.history.specs.Filling.{Filled}

-- where a day was refused, and how
pub data Stop : Type 0 where
  at_opening : Code → Stop
  at_closing : Code → Stop

abbrev pub stopped : {T : Type 0} → Result T DayRefusal → Option Stop
stopped (Ok _) = None
stopped (Err (Opening e)) = Some (at_opening (says e))
stopped (Err (Closing e)) = Some (at_closing (says e))

-- the opening's refusal, or else the closing's
abbrev pub day_stop : Option Code → Option Code → Option Stop
day_stop (Some c) closing = Some (at_opening c)
day_stop None (Some c) = Some (at_closing c)
day_stop None None = None

-- the board after a day: its jobs, its bed width, and as many rules as were accepted
pub record DayBoard {R : Type 0} (n w : ℕ) (rules : List R) (b : Numbers) : Type 0 where
  pub jobs : b.n ≡ n
  pub width : b.w ≡ w
  pub held : b.rules ≡ length rules

-- what a day leaves of the offers and the rules table: where the opening was refused, both as they were
abbrev pub OffersLeft : {R T : Type 0} → (R → ℕ → Bool) → ℕ → ℕ → List (Offer R) → List (Offer R) → List R → List R → Result T DayRefusal → Type 0
OffersLeft lawful n w offered os table table' (Ok _) = Filled lawful n w offered os table table'
OffersLeft lawful n w offered os table table' (Err (Opening e)) = (os ≡ offered) × (table' ≡ table)
OffersLeft lawful n w offered os table table' (Err (Closing e)) = Filled lawful n w offered os table table'
