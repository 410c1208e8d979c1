use Rattle.std.proofs.Common.{sym, ap, ◌∙◌}
use Rattle.places.specs.Families.{family}
use Rattle.cuts.specs.Current.{acted}
use Rattle.cuts.proofs.Carrying.{strikes, fixes, acts_past}
use Rattle.cuts.proofs.current.carry.Goals as goal

pub returns-then-job-lists : goal.returns-then-job-lists
returns-then-job-lists g c = acts_past g.L.PlaceSet.has c.args.lists.now c.args.cut.action c.args.cut.job c.args.cut.place c.if-job-lists.true

pub returns-in-Strike : goal.returns-in-Strike
returns-in-Strike g c =
    let has = g.L.PlaceSet.has in
    let xs = c.args.lists.now in
    strikes has xs c.args.cut.job c.args.cut.place c.index-lists-job.result c.strike.new.self c.if-job-lists.false c.strike.ensures.after
    ∙ ap (λ a. acted a c.args.cut.job c.args.cut.place (family has xs)) (sym c.in-Strike.is)

pub returns-in-Fix : goal.returns-in-Fix
returns-in-Fix g c =
    let has = g.L.PlaceSet.has in
    let xs = c.args.lists.now in
    fixes has xs c.args.cut.job c.args.cut.place c.index-lists-job-in-Fix.result c.fix.new.self c.if-job-lists.false c.fix.ensures.after
    ∙ ap (λ a. acted a c.args.cut.job c.args.cut.place (family has xs)) (sym c.in-Fix.is)
