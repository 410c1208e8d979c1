use Rattle.std.proofs.Common.{slice_index_or}
use Rattle.places.proofs.Families.{family_first, first_within}
use Rattle.distinct.proofs.scope.ScopedBipartite.next_from.Goals as goal

pub returns : goal.returns
returns g c =
    let xs = c.args.self.now.lists.now in
    record {
      first = family_first g.L.PlaceSet.has xs c.index.result _ c.args.place c.index-self-index.result c.next_from.result c.index.ensures.within c.index.ensures.value c.next_from.ensures.first;
      within = first_within (g.L.PlaceSet.has (slice_index_or xs c.index.result c.index-self-index.result)) g.L.PlaceSet.LIMIT c.args.place c.next_from.result
          (g.met.L.PlaceSet.within (slice_index_or xs c.index.result c.index-self-index.result)) c.next_from.ensures.first;
    }
