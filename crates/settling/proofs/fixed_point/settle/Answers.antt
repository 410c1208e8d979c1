use Rattle.std.proofs.Common.{◌≡◌, ◌<◌, ◌≤◌, true, List, length, sym, ap, ◌∙◌, subst, arith}
use Rattle.std.specs.List.{AllByRecursion}
use Rattle.std.proofs.ByRecursion.{All-weaker}
use Rattle.places.specs.Families.{family}
use Rattle.places.proofs.Families.{family_all}
use Rattle.rules.specs.Narrowing.{Scope}
use Rattle.rules.proofs.Narrowing.{narrowed_inside}
use Rattle.settling.specs.Waking.{Changed, Roused}
use Rattle.settling.proofs.Consistency.{settled_placing}
use Rattle.settling.proofs.Outcomes.{lowest_answer}
use Rattle.settling.proofs.Waking.{NarrowedBy, progress_start, progress_done, progress_step, step_less}
use Rattle.settling.proofs.fixed_point.settle.Goals as goal

pub wake_all-requires-clause-some : goal.wake_all-requires-clause-some
wake_all-requires-clause-some g c =
    let r = g.R.Rule in
    let n = length c.args.lists.now in
    subst (AllByRecursion (λ x. 0 < length (r.scope x))) (sym c.new-agenda.ensures.rules) (All-weaker (λ x. r.lawful x n ≡ true) (λ x. 0 < length (r.scope x)) (λ x h. (g.met.R.Rule.scoped x n h).some) c.args.rules.now c.requires.lawful)

pub loop-wake_up-init : goal.loop-wake_up-init
loop-wake_up-init g c =
    let same = c.wake_all.ensures.rules ∙ c.new-agenda.ensures.rules in
    (same, progress_start (λ i l. c.wake_all.ensures.all i (omega (arith, ap length same, l))), c.note_counts.ensures)

pub loop-wake_up-preserved : goal.loop-wake_up-preserved
loop-wake_up-preserved g c =
    let m = g.L.PlaceSet in
    let r = g.R.Rule in
    let rules = c.args.rules.now in
    let w = c.in-Some.wake_up in
    let before = family m.has c.loop-wake_up.lists in
    let after = family m.has c.narrow.new.lists in
    let same : c.take_next.new.self.rules ≡ rules = c.in-Some.ensures.rules ∙ c.loop-wake_up.invariant.0 in
    let known : w.rule < length rules = omega (arith, c.in-Some.ensures.rightful.is.0, ap length c.loop-wake_up.invariant.0) in
    let narrowed : NarrowedBy r.scope r.admits rules w.rule before after = record { named = c.index-rules-wake_up.result; is = (known, c.index-rules-wake_up.is); narrowed = c.narrow.ensures.narrowed } in
    let roused = subst (λ (rs : List g.row.R.Denot). Roused r.scope rs (Changed m.LIMIT after c.loop-wake_up.noted) (length c.narrow.new.lists) c.take_next.new.self.line c.wake_changed.new.agenda.line) same c.wake_changed.ensures.roused in (
      c.wake_changed.ensures.rules ∙ same,
      progress_step m.has m.LIMIT g.met.L.PlaceSet.within r.scope rules c.loop-wake_up.lists c.narrow.new.lists c.loop-wake_up.noted c.take_next.new.self.line c.wake_changed.new.agenda.line c.narrow.auto.lists (narrowed_inside narrowed.narrowed) c.loop-wake_up.invariant.2 roused r.admits (family m.has c.args.lists.now) c.loop-wake_up.agenda.line w c.loop-wake_up.invariant.1 c.in-Some.ensures.taken narrowed,
      c.wake_changed.ensures.noted,
    )

pub loop-wake_up-smaller : goal.loop-wake_up-smaller
loop-wake_up-smaller g c =
    let m = g.L.PlaceSet in
    let r = g.R.Rule in
    let rules = c.args.rules.now in
    let after = family m.has c.narrow.new.lists in
    let same : c.take_next.new.self.rules ≡ rules = c.in-Some.ensures.rules ∙ c.loop-wake_up.invariant.0 in
    let roused = subst (λ (rs : List g.row.R.Denot). Roused r.scope rs (Changed m.LIMIT after c.loop-wake_up.noted) (length c.narrow.new.lists) c.take_next.new.self.line c.wake_changed.new.agenda.line) same c.wake_changed.ensures.roused in
    let within : length c.loop-wake_up.agenda.line ≤ length rules = omega (arith, c.in-Some.ensures.within, ap length c.loop-wake_up.invariant.0) in
    step_less m.has m.LIMIT g.met.L.PlaceSet.within r.scope rules c.loop-wake_up.lists c.narrow.new.lists c.loop-wake_up.noted c.take_next.new.self.line c.wake_changed.new.agenda.line c.narrow.auto.lists (narrowed_inside c.narrow.ensures.narrowed) c.loop-wake_up.invariant.2 roused c.loop-wake_up.agenda.line c.in-Some.wake_up c.in-Some.ensures.taken within

pub returns : goal.returns
returns g c =
    let m = g.L.PlaceSet in
    let r = g.R.Rule in
    let rules = c.args.rules.now in
    let n = length c.args.lists.now in
    let before = family m.has c.args.lists.now in
    let after = family m.has c.loop-wake_up.lists in
    let done = progress_done c.loop-wake_up.invariant.1 c.in_default.ensures.taken.0 in
    let scopes = All-weaker (λ x. r.lawful x n ≡ true) (λ x. Scope n (r.scope x)) (λ x h. g.met.R.Rule.scoped x n h) rules c.requires.lawful in
    record {
      settled = done;
      lowest = lowest_answer r.scope r.admits rules m.LIMIT n before after c.loop-wake_up.noted done (family_all m.has (λ p. p < m.LIMIT) g.met.L.PlaceSet.within c.loop-wake_up.lists) (omega arith) (λ j l. c.loop-wake_up.invariant.2 j (omega arith)) c.first_zero.result c.first_zero.ensures;
      placings = settled_placing r.scope r.admits n scopes done;
    }
