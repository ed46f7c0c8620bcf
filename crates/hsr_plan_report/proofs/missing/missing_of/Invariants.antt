use Rattle.std.proofs.Common.{◌≡◌, ◌+◌, length, take}
use Rattle.hsr_plan_report.specs.Missing.{AreMissing}
use Rattle.hsr_plan_report.proofs.missing.missing_of.Given as goal

-- the sends so far
abbrev pub invariant-loop-index : goal.invariant-loop-index
invariant-loop-index l = record {
  long : length l.missing.items ≡ l.fn.last + 1;
  missing : AreMissing l.audience l.streams l.fn.last (take l.index l.deliveries) l.missing.items;
}
