use Rattle.std.proofs.Common.{◌≡◌, ◌-◌}
use Rattle.layout.specs.Layout.{fault_from, blocks}
use Rattle.layout.proofs.sheet.check_layout.Given as goal

abbrev pub invariant-loop-number : goal.invariant-loop-number
invariant-loop-number l = fault_from l.bytes l.number-counter (blocks l.bytes - l.number-counter) ≡ fault_from l.bytes 0 (blocks l.bytes)
