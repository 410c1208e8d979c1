-- Rules offered to a board that was just opened: which are accepted, and what the rules table then holds.
use Rattle.std.specs.Prelude.{◌≡◌, ℕ, ◌<◌, ◌≤◌, min, Bool, if◌then◌else◌, List, [], ◌∷◌, ◌++◌, map, length, take, slice_index_or, slice_set}
use Rattle.board.specs.Book.{Held, add_refusal}
use Rattle.history.specs.declared.offer.Offer.{Offer}
use Rattle.history.specs.Calls.{said, succeeds, outcome}

-- what the board holds where these rules were accepted
abbrev pub filling : {R : Type 0} → ℕ → ℕ → List R → Held
filling n w rs = record { jobs = n; width = w; rules = length rs; cuts = 0 }

-- the accepted rules after an offer: an accepted rule goes last, a refused one is passed over
abbrev pub accepted_after : {R : Type 0} → List R → Offer R → List R
accepted_after rs o = if succeeds (said o.answer) then rs ++ o.rule ∷ [] else rs

-- the rules table after an offer: an accepted rule is written to the slot past those accepted before
abbrev pub table_after : {R : Type 0} → List R → List R → Offer R → List R
table_after rs table o = if succeeds (said o.answer) then slice_set table (length rs) o.rule else table

-- the same after all offers, in order
abbrev pub accepted_from : {R : Type 0} → List R → List (Offer R) → List R
accepted_from rs [] = rs
accepted_from rs (o ∷ os) = accepted_from (accepted_after rs o) os

abbrev pub table_from : {R : Type 0} → List R → List R → List (Offer R) → List R
table_from rs table [] = table
table_from rs table (o ∷ os) = table_from (accepted_after rs o) (table_after rs table o) os

abbrev pub accepted_of : {R : Type 0} → List (Offer R) → List R
accepted_of os = accepted_from [] os

abbrev pub rules_of : {R : Type 0} → List (Offer R) → List R
rules_of {R} os = map (λ (o : Offer R). o.rule) os

abbrev pub lent_of : {R : Type 0} → List (Offer R) → List ℕ
lent_of {R} os = map (λ (o : Offer R). o.lent) os

-- an offer is answered by the book, for the front of the rules table that the call is lent
abbrev pub OfferSays : {R : Type 0} → (R → ℕ → Bool) → ℕ → ℕ → List R → List R → Offer R → Type 0
OfferSays lawful n w rs table o = said o.answer ≡ outcome (add_refusal lawful (filling n w rs) (take (min o.lent (length table)) table) o.rule)

-- every offer is, at the rules and the table that the offers before it leave
abbrev pub OffersSay : {R : Type 0} → (R → ℕ → Bool) → ℕ → ℕ → List R → List R → List (Offer R) → Type 0
OffersSay {R} lawful n w rs table os = (i : ℕ) (d : Offer R) → i < length os
    → OfferSays lawful n w (accepted_from rs (take i os)) (table_from rs table (take i os)) (slice_index_or os i d)

-- One offer to a board that holds the rules rs in the front of its table.
pub record Offered {R : Type 0} (lawful : R → ℕ → Bool) (n w : ℕ) (rs table : List R) (before after : Offer R) (held : ℕ) (table' : List R) : Type 0 where
  pub rule : after.rule ≡ before.rule
  pub lent : after.lent ≡ before.lent
  pub answer : OfferSays lawful n w rs table after
  pub stored : table' ≡ table_after rs table after
  pub front : take held table' ≡ accepted_after rs after
  pub room : held ≤ length table'

-- The rules `offered` were offered in order, and `os` has them with their answers.
pub record Filled {R : Type 0} (lawful : R → ℕ → Bool) (n w : ℕ) (offered os : List (Offer R)) (table table' : List R) : Type 0 where
  -- only answers are written
  pub rules : rules_of os ≡ rules_of offered
  pub lent : lent_of os ≡ lent_of offered
  -- every answer is the book's at its moment
  pub answers : OffersSay lawful n w [] table os
  -- the accepted rules stand in the front of the table, and past them nothing is written
  pub stored : table' ≡ table_from [] table os
  pub front : take (length (accepted_of os)) table' ≡ accepted_of os
