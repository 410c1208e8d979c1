use Rattle.std.proofs.Common.{ℕ, Bool, subst}
use Rattle.places.specs.Sets.{First}
use Rattle.matching.proofs.listed.ByListsBipartite.next_from.Goals as goal

pub returns-clause-first : goal.returns-clause-first
returns-clause-first g c = subst (λ (s : ℕ → Bool). First s c.args.place c.next_from.result) c.list.ensures c.next_from.ensures.first
