use Rattle.std.proofs.Common.{◌≡◌, ℕ, ◌+◌, ◌<◌, List, length, set, sym, ap, ◌∙◌, subst, arith}
use Rattle.std.proofs.lemmas.Bool.{eqb-true, eqb-false, not-true, not-false}
use Rattle.theory.specs.Counts.{count}
use Rattle.places.specs.Families.{family}
use Rattle.places.proofs.Families.{family_list}
use Rattle.settling.specs.Agenda.{Lined}
use Rattle.settling.specs.Waking.{Woken, Called, ByJob}
use Rattle.settling.proofs.Waking.{ChangesDone, changes_woken, changes_past}
use Rattle.settling.proofs.wake.wake_changed.Goals as goal
use Rattle.settling.proofs.wake.wake_changed.Goals.{then-note_count, else-note_count}

pub loop-j-preserved : goal.loop-j-preserved
loop-j-preserved g c =
    let m = g.L.PlaceSet in
    let lists = c.args.lists.now in
    let old = c.args.agenda.now in
    let j = c.loop-j.j in
    let so_far = c.loop-j.invariant.1 in
    let within : j < length c.loop-j.noted = omega arith in
    let here = family_list m.has lists j c.index-lists-j.result c.loop-j-test.true c.index-lists-j.is in
    let many : c.count.result ≡ count (family m.has lists j) m.LIMIT = c.count.ensures.value ∙ ap (λ u. count u m.LIMIT) here in
    let Done : Lined g.row.R.Denot → List ℕ → Type 0 = λ a noted. (a.rules ≡ old.rules) × ChangesDone g.R.Rule.scope old.rules m.LIMIT (family m.has lists) c.args.noted.now (j + 1) old.line a.line noted in
    subst (Done c.if-note_count.agenda) (sym c.note_count.ensures.noted)
    (elim c.if-note_count.branch [
      | then-note_count w ↦
          let same = c.loop-j.invariant.0 in
          let woken = subst (λ (rs : List g.row.R.Denot). Woken g.R.Rule.scope rs j c.loop-j.agenda.line w.wake_for_job.new.agenda.line) same w.wake_for_job.ensures.woken in
          let called = subst (λ (rs : List g.row.R.Denot). Called g.R.Rule.scope rs (ByJob c.loop-j.agenda.line j) c.loop-j.agenda.line w.wake_for_job.new.agenda.line) same w.wake_for_job.ensures.called in
          subst (λ a. Done a (set c.loop-j.noted j c.count.result)) (sym w.agenda-is)
          (w.wake_for_job.ensures.rules ∙ same, changes_woken so_far c.count.result w.wake_for_job.new.agenda.line within many (eqb-false _ _ (not-true _ (sym c.note_count.ensures.changed ∙ w.if-note_count.true))) woken called)
      | else-note_count w ↦
          subst (λ a. Done a (set c.loop-j.noted j c.count.result)) (sym w.agenda-is)
          (c.loop-j.invariant.0, changes_past so_far c.count.result within many (eqb-true _ _ (not-false _ (sym c.note_count.ensures.changed ∙ w.if-note_count.false))))
    ])

pub returns : goal.returns
returns g c =
    let old = c.args.agenda.now in
    let done : c.loop-j.j ≡ length c.args.lists.now = omega arith in
    let all = subst (λ n. ChangesDone g.R.Rule.scope old.rules g.L.PlaceSet.LIMIT (family g.L.PlaceSet.has c.args.lists.now) c.args.noted.now n old.line c.loop-j.agenda.line c.loop-j.noted) done c.loop-j.invariant.1 in
    record { rules = c.loop-j.invariant.0; roused = all.roused; called = all.called; noted = all.counts.now }
