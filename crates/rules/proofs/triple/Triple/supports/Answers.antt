use Rattle.std.proofs.Common.{◌≡◌, ◌<◌, arith}
use Rattle.places.proofs.Families.{family_all, family_list}
use Rattle.rules.proofs.Triples.{decides_first, decides_second, decides_third, below_three}
use Rattle.rules.proofs.triple.Triple.supports.Goals as goal

pub completes_first-requires : goal.completes_first-requires
completes_first-requires g c = let m = g.L.PlaceSet in family_all m.has (λ q. q < m.LIMIT) g.met.L.PlaceSet.within c.args.lists.now _ _ c.requires.held

pub completes_second-requires : goal.completes_second-requires
completes_second-requires g c = let m = g.L.PlaceSet in family_all m.has (λ q. q < m.LIMIT) g.met.L.PlaceSet.within c.args.lists.now _ _ c.requires.held

pub completes_third-requires : goal.completes_third-requires
completes_third-requires g c = let m = g.L.PlaceSet in family_all m.has (λ q. q < m.LIMIT) g.met.L.PlaceSet.within c.args.lists.now _ _ c.requires.held

pub returns-in-0 : goal.returns-in-0
returns-in-0 g c =
    let has = g.L.PlaceSet.has in
    let xs = c.args.lists.now in
    let below = below_three c.requires.scope in
    decides_first _ _ _ _ _ (family_list has xs _ c.index-lists-self.result below.1 c.index-lists-self.is) (family_list has xs _ c.index-lists-self-in-0.result below.2 c.index-lists-self-in-0.is)
    c.args.k c.in-0.is c.requires.held c.completes_first.ensures

pub returns-in-1 : goal.returns-in-1
returns-in-1 g c =
    let has = g.L.PlaceSet.has in
    let xs = c.args.lists.now in
    let below = below_three c.requires.scope in
    decides_second _ _ _ _ _ (family_list has xs _ c.index-lists-self-in-1.result below.0 c.index-lists-self-in-1.is) (family_list has xs _ c.index-lists-self-in-1-2.result below.2 c.index-lists-self-in-1-2.is)
    c.args.k c.in-1.is c.requires.held c.completes_second.ensures

pub returns-in_default : goal.returns-in_default
returns-in_default g c =
    let has = g.L.PlaceSet.has in
    let xs = c.args.lists.now in
    let below = below_three c.requires.scope in
    let position : c.args.k < 3 = c.requires.position in
    let at : c.args.k ≡ 2 = omega arith in
    decides_third _ _ _ _ _ (family_list has xs _ c.index-lists-self-in_default.result below.0 c.index-lists-self-in_default.is) (family_list has xs _ c.index-lists-self-in_default-2.result below.1 c.index-lists-self-in_default-2.is)
    c.args.k at c.requires.held c.completes_third.ensures
