use Rattle.components.specs.States.{over, tables_of, heights_of}
use Rattle.components.proofs.States.{goes}
use Rattle.components.proofs.Walks.{has_room}
use Rattle.components.proofs.Ends.{walked_root, root_seen, root_keeps}
use Rattle.components.proofs.walk.Walk.explore.Goals as goal

pub push-requires-clause-room : goal.push-requires-clause-room
push-requires-clause-room g c = let w = c.args.self.now in has_room (over w) (tables_of w) (heights_of w) c.requires.state c.args.root c.requires.root.0 c.requires.root.1

pub loop-last-init : goal.loop-last-init
loop-last-init g c =
    let w = c.args.self.now in
    let v = c.push.new.self in
    let k = c.requires.state in
    let (l, new) = c.requires.root in
    let p = c.push.ensures.pushed in (
      goes w v c.push.ensures.keeps (walked_root (over w) (tables_of w) (heights_of w) c.args.root k c.requires.idle l (tables_of v) (heights_of v) p new)
          (root_keeps (over w) (tables_of w) (heights_of w) c.args.root k c.requires.idle l (tables_of v) (heights_of v) p),
      root_seen (over w) (tables_of w) (heights_of w) c.args.root k c.requires.idle l (tables_of v) (heights_of v) p,
    )
