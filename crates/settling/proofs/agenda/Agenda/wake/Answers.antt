use Rattle.std.proofs.Common.{rules}
use Rattle.settling.specs.declared.agenda.WakeUp.{WakeUp}
use Rattle.settling.proofs.Agendas.{rightful_in, agreed_wake, agreed_room, appended, standing}
use Rattle.settling.proofs.agenda.Agenda.wake.Goals as goal

pub unwrap-requires : goal.unwrap-requires
unwrap-requires g c =
    let w : WakeUp = record { rule = c.args.rule; job = c.args.job } in
    let right = rightful_in c.self.view_is c.requires in
    c.push_back.ensures.room.1 (agreed_room c.self.invariant w right c.if-not-self-rule.true)

pub invariant_of-self : goal.invariant_of-self
invariant_of-self g c =
    let w : WakeUp = record { rule = c.args.rule; job = c.args.job } in
    let right = rightful_in c.self.view_is c.requires in
    agreed_wake c.self.invariant w right c.if-not-self-rule.true _ _ c.push_back.ensures.capacity (search rules)

pub returns-then-not-self-rule-clause-line : goal.returns-then-not-self-rule-clause-line
returns-then-not-self-rule-clause-line g c =
    let w : WakeUp = record { rule = c.args.rule; job = c.args.job } in
    let right = rightful_in c.self.view_is c.requires in
    rw (← c.self.view_is) (appended c.self.invariant w right c.if-not-self-rule.true _ (search rules))

pub returns-else-not-self-rule-clause-line : goal.returns-else-not-self-rule-clause-line
returns-else-not-self-rule-clause-line g c =
    let w : WakeUp = record { rule = c.args.rule; job = c.args.job } in
    let right = rightful_in c.self.view_is c.requires in
    rw (← c.self.view_is) (standing c.self.invariant w right c.if-not-self-rule.false)
