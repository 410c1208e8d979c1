use Rattle.std.proofs.Common.{ℕ, ◌<◌, sym, ap, ◌∙◌, refl, subst, arith}
use Rattle.theory.specs.Reach.{Along}
use Rattle.theory.specs.Trail.{Spent}
use Rattle.theory.specs.TrailTheorems.{Passed}
use Rattle.matching.specs.Tables.{at}
use Rattle.components.specs.Walks.{edge, passed}
use Rattle.components.specs.States.{over, tables_of, heights_of}
use Rattle.components.proofs.States.{goes}
use Rattle.components.proofs.Walks.{has_room}
use Rattle.components.proofs.Follows.{spent_from, past_at, step_at}
use Rattle.components.proofs.walk.Walk.advance.Goals as goal

pub leave-requires-clause-spent : goal.leave-requires-clause-spent
leave-requires-clause-spent g c =
    let w = c.args.self.now in
    let o = over w in
    let none = c.in_default.ensures.first in
    subst (λ (a : ℕ). Spent (Along o.jobs (edge o)) (Passed (passed o w.cursors.now)) a) c.at-job.ensures (spent_from o w.cursors.now c.at-job.result none)

pub follow-requires-clause-room : goal.follow-requires-clause-room
follow-requires-clause-room g c e =
    let w = c.args.self.now in
    let b = c.in-Some-holder_of.holder in
    let (held, some) = c.in-Some-holder_of.ensures in
    let low = c.in-Some.ensures.within in
    let l : b < (over w).jobs = omega (arith, held, (w.graph.every.matched.back c.in-Some.place low (λ z. some (omega (arith, held, z)))).0) in
    has_room (over w) (tables_of w) (heights_of w) c.requires.state b l e

pub returns-in-Some-holder_of : goal.returns-in-Some-holder_of
returns-in-Some-holder_of g c =
    let w = c.args.self.now in
    let v = c.follow.new.self in
    let p = c.in-Some.place in
    let (d, e) = c.requires.last in
    let f = c.in-Some.ensures.first in
    let low = c.in-Some.ensures.within in
    let (held, some) = c.in-Some-holder_of.ensures in
    let k = c.follow.ensures.keeps in
    let a =
    step_at (over w) w.graph.every (tables_of w) (heights_of w) c.requires.state d c.at-job.result (ap (at w.nodes.slots.now) e ∙ sym c.at-job.ensures) p f.0 f.2 c.in-Some-holder_of.holder low f.1 held some (tables_of v) (heights_of v) c.follow.ensures.followed in
    record { state = goes w v (record { graph = k.graph; index = k.index; labels = k.labels }) a.walked a.seen; less = a.less }

pub returns-in_default-holder_of : goal.returns-in_default-holder_of
returns-in_default-holder_of g c =
    let w = c.args.self.now in
    let p = c.in-Some.place in
    let (d, e) = c.requires.last in
    let f = c.in-Some.ensures.first in
    let low = c.in-Some.ensures.within in
    let a =
    past_at (over w) w.graph.every (tables_of w) (heights_of w) c.requires.state d c.at-job.result (ap (at w.nodes.slots.now) e ∙ sym c.at-job.ensures) p f.0 f.2 low c.in_default-holder_of.ensures in
    record { state = record { keeps = record { graph = refl; index = refl; labels = refl }; walked = a.walked; seen = a.seen }; less = a.less }
