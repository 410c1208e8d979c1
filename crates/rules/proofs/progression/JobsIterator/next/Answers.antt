use Rattle.std.proofs.Common.{◌+◌, ◌<◌, ◌∷◌, length, drop, ap, sym, ◌∙◌, arith, rules}
use Rattle.std.proofs.lemmas.List.{at_drop_all, at_drop_more}
use Rattle.rules.specs.Progressions.{jobs_of}
use Rattle.rules.proofs.Progressions.{spread_length}
use Rattle.rules.proofs.progression.JobsIterator.next.Goals as goal

pub returns-then-self-clause-steps : goal.returns-then-self-clause-steps
returns-then-self-clause-steps c =
    let d = c.args.self.now.jobs in
    let none = at_drop_all (λ ys. ys) (jobs_of d) c.args.self.now.at (omega (arith, spread_length d.first d.step d.count, c.if-self.true)) in
    (none, none)

pub returns-clause-steps : goal.returns-clause-steps
returns-clause-steps c =
    let d = c.args.self.now.jobs in
    let i = c.args.self.now.at in
    at_drop_more (λ ys. ys) (jobs_of d) i 0 (omega (arith, spread_length d.first d.step d.count, c.if-self.false))
    ∙ ap (λ j. j ∷ drop (i + 1) (jobs_of d)) (sym c.job_at-job.ensures.listed)

pub returns-clause-goes : goal.returns-clause-goes
returns-clause-goes c =
    let d = c.args.self.now.jobs in
    let i = c.args.self.now.at in
    let shorter : length (drop (i + 1) (jobs_of d)) < length (drop i (jobs_of d)) =
    omega (arith, ap length (at_drop_more (λ ys. ys) (jobs_of d) i 0 (omega (arith, spread_length d.first d.step d.count, c.if-self.false)))) in
    search rules
