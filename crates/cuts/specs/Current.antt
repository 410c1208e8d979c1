-- The current lists: the opened lists with cuts carried out.
use Rattle.std.specs.Prelude.{ℕ, List, [], ◌∷◌}
use Rattle.places.specs.Families.{Family, struck, fixed}
use Rattle.cuts.specs.declared.cut.Action.{Action}
use Rattle.cuts.specs.declared.cut.Action.TheVariants.{Strike, Fix}
use Rattle.cuts.specs.declared.cut.Cut.{Cut}

-- a family after an action on one job
abbrev pub acted : Action → ℕ → ℕ → Family → Family
acted Strike j p f = struck j p f
acted Fix j p f = fixed j p f

-- a family after one cut
abbrev pub carried : Cut → Family → Family
carried c f = acted c.action c.job c.place f

-- a family after all cuts, in order
abbrev pub current : Family → List Cut → Family
current f [] = f
current f (c ∷ cs) = current (carried c f) cs
