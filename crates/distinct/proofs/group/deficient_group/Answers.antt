use Rattle.std.proofs.Common.{◌≤◌, length, ◌∙◌, arith}
use Rattle.places.specs.Families.{family}
use Rattle.rules.specs.Progressions.{jobs_of}
use Rattle.distinct.proofs.Countings.{missing}
use Rattle.distinct.proofs.Spreads.{count_is, count_few, job_below, last_below}
use Rattle.distinct.proofs.Tellings.{told}
use Rattle.distinct.proofs.group.deficient_group.Goals as goal

pub split_at_mut-places-requires : goal.split_at_mut-places-requires
split_at_mut-places-requires g c = omega (arith, count_few c.args.jobs.now (length c.args.lists.now) c.requires.scope, c.requires.memory)

pub split_at_mut-holders-requires : goal.split_at_mut-holders-requires
split_at_mut-holders-requires g c = omega (arith, count_few c.args.jobs.now (length c.args.lists.now) c.requires.scope, c.requires.memory)

pub split_at_mut-parents-requires : goal.split_at_mut-parents-requires
split_at_mut-parents-requires g c = omega (arith, count_few c.args.jobs.now (length c.args.lists.now) c.requires.scope, c.requires.memory)

pub split_at_mut-slots-requires : goal.split_at_mut-slots-requires
split_at_mut-slots-requires g c = omega (arith, count_few c.args.jobs.now (length c.args.lists.now) c.requires.scope, c.requires.memory)

pub invariant_of-match_jobs : goal.invariant_of-match_jobs
invariant_of-match_jobs g c =
    let d = c.args.jobs.now in
    let n = length c.args.lists.now in
    record { few = omega (arith, count_few d n c.requires.scope, c.requires.few); fits = last_below d n c.requires.scope }

pub list_marked-requires : goal.list_marked-requires
list_marked-requires g c =
    let d = c.args.jobs.now in
    let n = length c.args.lists.now in
    let few : d.count ≤ n = count_few d n c.requires.scope in
    record {
      few = omega (arith, c.requires.few);
      marks = c.match_jobs.auto.parents ∙ c.split_at_mut-parents.ensures.front_len;
      small = λ i l. omega (arith, job_below d n c.requires.scope i l, c.requires.few);
      table = omega (arith, c.requires.table);
    }

pub returns : goal.returns
returns g c =
    let d = c.args.jobs.now in
    let n = length c.args.lists.now in
    told n d.count g.L.PlaceSet.LIMIT (family g.L.PlaceSet.has c.args.lists.now) (jobs_of d) c.match_jobs.new.places c.match_jobs.new.holders c.match_jobs.new.parents
    c.requires.scope (count_is d n c.requires.scope) c.match_jobs.ensures c.args.table.now c.list_marked.new.table c.list_marked.result c.count_none.result
    (c.match_jobs.auto.places ∙ c.split_at_mut-places.ensures.front_len) c.list_marked.ensures.listed c.list_marked.ensures.rest
    (omega (arith, c.list_marked.ensures.len, c.list_marked.auto.table)) (c.count_none.ensures ∙ missing c.match_jobs.new.places)
