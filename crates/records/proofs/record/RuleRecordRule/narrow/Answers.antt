use Rattle.records.proofs.record.RuleRecordRule.narrow.Goals as goal

pub returns-in-Sum : goal.returns-in-Sum
returns-in-Sum g c = record { narrowed = rw c.in-Sum.is c.narrow-in-Sum.ensures.narrowed }

pub returns-in-Gap : goal.returns-in-Gap
returns-in-Gap g c = record { narrowed = rw c.in-Gap.is c.narrow-in-Gap.ensures.narrowed }
