use Rattle.std.proofs.Common.{◌≤◌, length}
use Rattle.hsr_health.specs.Sources.{AreMacs}
use Rattle.hsr_health.proofs.sources.macs_of.Given as goal

-- those of the copies so far
abbrev pub invariant-loop-i : goal.invariant-loop-i
invariant-loop-i l = record {
  macs : AreMacs l.copies l.i l.macs.items;
  few : length l.macs.items ≤ 1024;
}
