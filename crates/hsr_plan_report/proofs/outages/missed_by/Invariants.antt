use Rattle.std.proofs.Common.{◌≡◌, ◌+◌, ◌-◌, ◌^◌, ◌≤◌, drop}
use Rattle.std.specs.Prelude.{min}
use Rattle.hsr_plan_report.specs.Outages.{sends_from}
use Rattle.hsr_plan_report.proofs.outages.missed_by.Given as goal

-- those of the lines so far, and of the others
abbrev pub invariant-loop-cut : goal.invariant-loop-cut
invariant-loop-cut l = record {
  fits : l.missed ≤ 2 ^ 64 - 1;
  sum : min (l.missed + sends_from l.fn.node (drop l.cut-index l.cuts)) (2 ^ 64 - 1) ≡ min (sends_from l.fn.node l.cuts) (2 ^ 64 - 1);
}
