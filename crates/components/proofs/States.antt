-- A search in its struct.
use Rattle.std.proofs.Common.{◌≡◌, ℕ, true, sym, ap, subst}
use Rattle.matching.specs.declared.bipartite.Bipartite as lists
use Rattle.matching.specs.Tables.{filled}
use Rattle.components.specs.Walks.{Setting, Walked}
use Rattle.components.specs.declared.walk.Walk.{Walk}
use Rattle.components.specs.States.{setting_of, over, tables_of, heights_of, Keeps, GoesOn}

module _ {J : Type 0} {B : lists.Ghosts J} where
  -- the same graph
  pub over_same : (old new : Walk J B) → Keeps old new → over new ≡ over old
  over_same old new k = ap (λ r. setting_of r) k.graph

  pub goes : (old new : Walk J B) → Keeps old new → Walked (over old) (tables_of new) (heights_of new) → ((a : ℕ) → filled old.index.now a ≡ true → filled new.index.now a ≡ true) → GoesOn old new
  goes old new k w seen =
      record { keeps = k; walked = subst (λ (g : Setting). Walked g (tables_of new) (heights_of new)) (sym (over_same old new k)) w; seen = seen }
