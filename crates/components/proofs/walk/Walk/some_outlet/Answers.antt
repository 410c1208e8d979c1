use Rattle.std.proofs.Common.{ℕ, ◌+◌, ◌<◌, length, sym, ap, ◌∙◌, subst, arith}
use native.Mathlib.Decide.{ℕ_discrete}
use Rattle.std.proofs.lemmas.Bool.{false≢true, iff_false}
use Rattle.matching.specs.Tables.{at}
use Rattle.components.specs.Steps.{HasOutlet}
use Rattle.components.specs.States.{over}
use Rattle.components.proofs.walk.Walk.some_outlet.Goals as goal

pub loop-job-preserved : goal.loop-job-preserved
loop-job-preserved g c y low l h =
    let w = c.args.self.now in
    let x = c.loop-job.job-index in
    let lx : x < length c.tail-job-items.result.now = omega arith in
    elim (ℕ_discrete y (c.args.from + x)) [
      | yes e ↦
          iff_false c.has_outlet.ensures c.if-has_outlet.false
          (subst (λ (k : ℕ). HasOutlet (over w) w.index.now w.labels.now k) (ap (at w.nodes.slots.now) e ∙ sym (c.tail-job-items.ensures.numbers x lx)) h)
      | no ne ↦ c.loop-job.invariant y low (omega arith) h
    ]

pub returns : goal.returns
returns g c = (λ e. absurd (false≢true e), λ (x, low, l, h). absurd (c.loop-job.invariant x low (omega arith) h))
