-- What an iterator over a progression's jobs still gives.
use Rattle.std.specs.Prelude.{List, ℕ, drop}
use Rattle.rules.specs.declared.progression.Jobs.{Jobs}
use Rattle.rules.specs.Progressions.{jobs_of}

-- the jobs from the position that it has come to on
abbrev pub jobs_left : Jobs → List ℕ
jobs_left s = drop s.at (jobs_of s.jobs)
