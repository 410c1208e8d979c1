-- A rule record means what the rule in it means.
use Rattle.std.specs.Prelude.{◌≡◌, ℕ, Bool, true, List, Some, None, Option, refl}
use Rattle.std.proofs.Common.{ap}
use Rattle.std.proofs.lemmas.Option.{none-some, same_Some}
use Rattle.rules.specs.Narrowing.{Scope}
use Rattle.rules.specs.Progressions.{Names, jobs_of, lawful, no_place_twice}
use Rattle.rules.specs.Triples.{triple, three_jobs, is_sum, is_gap, apart}
use Rattle.rules.specs.declared.progression.Progression.{Progression}
use Rattle.rules.proofs.Progressions.{lawful_scope}
use Rattle.rules.proofs.Triples.{apart_scope}
use Rattle.records.specs.declared.record.RuleRecord.{RuleRecord}
use Rattle.records.specs.declared.record.RuleRecord.TheVariants.{Distinct, Sum, Gap}

abbrev pub scope_of : RuleRecord → List ℕ
scope_of (Distinct d) = jobs_of d.jobs
scope_of (Sum s) = three_jobs s
scope_of (Gap g) = three_jobs g

abbrev pub admits_of : RuleRecord → List ℕ → Bool
admits_of (Distinct d) = no_place_twice
admits_of (Sum s) = triple is_sum
admits_of (Gap g) = triple is_gap

abbrev pub lawful_of : RuleRecord → ℕ → Bool
lawful_of (Distinct d) n = lawful d.jobs n
lawful_of (Sum s) n = apart n s.a s.b s.c
lawful_of (Gap g) n = apart n g.a g.b g.c

abbrev pub names_of : RuleRecord → Option Progression
names_of (Distinct d) = Some d.jobs
names_of (Sum s) = None
names_of (Gap g) = None

-- the jobs of a lawful record are a scope
pub lawful_of_scope : (r : RuleRecord) (n : ℕ) → lawful_of r n ≡ true → Scope n (scope_of r)
lawful_of_scope (Distinct d) n h = lawful_scope d.jobs n h
lawful_of_scope (Sum s) n h = apart_scope n s.a s.b s.c h
lawful_of_scope (Gap g) n h = apart_scope n g.a g.b g.c h

-- a record that names jobs is the rule that they have different places
pub names_of_names : (r : RuleRecord) (d : Progression) → names_of r ≡ Some d → Names (scope_of r) (admits_of r) d
names_of_names (Distinct r) d e = record { jobs = ap jobs_of (same_Some r.jobs d e); same = λ row. refl }
names_of_names (Sum s) d e = absurd (none-some d e)
names_of_names (Gap g) d e = absurd (none-some d e)
