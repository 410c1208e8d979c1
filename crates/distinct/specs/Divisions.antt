-- What was found of a full matching, as the code holds it.
use Rattle.std.specs.Prelude.{ℕ, Bool}
use Rattle.distinct.specs.declared.sift.Division.{Division}
use Rattle.distinct.specs.Scopes.{Divided, stays}

-- whether a place stays in the list of a job
abbrev pub stays_in : Division → ℕ → ℕ → Bool
stays_in d = stays d.places.now d.holders.now d.labels.now d.marks.now

-- the tables have room for m jobs and w places
abbrev pub Covers : ℕ → ℕ → Division → Type 0
Covers m w d = Divided m w d.places.now d.holders.now d.labels.now d.marks.now
