use Rattle.std.proofs.Common.{◌∙◌, arith}
use Rattle.matching.specs.Tables.{filled}
use Rattle.matching.proofs.Tables.{none_filled, some_filled}
use Rattle.rules.specs.Progressions.{jobs_of}
use Rattle.distinct.proofs.Choosing.{listed_more, listed_same}
use Rattle.distinct.proofs.group.list_marked.Goals as goal
use Rattle.distinct.proofs.group.list_marked.Goals.{then-mark, else-mark}

pub loop-i-preserved : goal.loop-i-preserved
loop-i-preserved c =
    let r = c.args.jobs.now in
    let xs = c.args.marks.now in
    let i = c.loop-i.i in
    elim c.if-mark.branch [
      | then-mark w ↦
          listed_more (jobs_of r) (filled xs) c.args.table.now c.loop-i.table c.if-mark.table c.loop-i.len c.if-mark.len i w.job_at.result (omega (arith, c.requires.table, c.requires.marks))
          w.job_at.ensures.listed (some_filled xs i w.if-mark.true) c.loop-i.invariant
          (w.table-is ∙ w.append-len.ensures.table) (w.len-is ∙ w.append-len.ensures.len)
      | else-mark w ↦
          listed_same (jobs_of r) (filled xs) c.args.table.now c.loop-i.table c.if-mark.table c.loop-i.len c.if-mark.len i (none_filled xs i w.if-mark.false) c.loop-i.invariant w.table-is w.len-is
    ]
