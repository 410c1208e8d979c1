use Rattle.std.proofs.Common.{ℕ, sym, ◌∙◌, subst}
use Rattle.std.proofs.lemmas.List.{length-take-le}
use Rattle.rules.specs.Narrowing.{Scope}
use Rattle.rules.specs.Progressions.{jobs_of}
use Rattle.distinct.specs.Groups.{GroupTold}
use Rattle.board.proofs.Groupings.{named_scope}
use Rattle.board.proofs.numbers.Numbers.group.Goals as goal

pub deficient_group-requires-clause-scope : goal.deficient_group-requires-clause-scope
deficient_group-requires-clause-scope g c =
    let b = c.args.self.now in
    let r = g.R.Rule in
    let ready = c.in_ok-jobs.ensures.ready.0 in
    let size = c.write_current.auto.lists ∙ length-take-le b.n c.args.memory.now.working.now ready.working in
    subst (λ (n : ℕ). Scope n (jobs_of c.in_ok-jobs.jobs)) (sym size)
    (named_scope r.names r.scope r.admits r.lawful b.n g.met.R.Rule.scoped g.met.R.Rule.named _ c.args.rule c.in_ok-jobs.jobs ready.all_lawful c.in_ok-jobs.ensures.ready.2)

pub returns-clause-group : goal.returns-clause-group
returns-clause-group g c = (
  sym c.in_ok-jobs.ensures.refusal,
  (
    c.in_ok-jobs.jobs,
    c.in_ok-jobs.ensures.ready.2,
    subst (λ f. GroupTold g.L.PlaceSet.LIMIT f (jobs_of c.in_ok-jobs.jobs) c.args.table.now c.deficient_group.new.table c.deficient_group.result.count c.deficient_group.result.deficiency) c.write_current.ensures c.deficient_group.ensures,
  ),
)
