use Rattle.std.proofs.Common.{◌-◌, ◌≤◌, length}
use Rattle.hsr_health.specs.Sources.{IsPart, Rise}
use Rattle.hsr_health.proofs.sources.place_of.Given as goal

-- it stands among those that are left
abbrev pub invariant-loop-part : goal.invariant-loop-part
invariant-loop-part l = record {
  part : Rise l.macs → IsPart l.macs l.number l.part.low l.part.high;
  order : l.part.low ≤ l.part.high;
  within : l.part.high ≤ length l.macs;
}

abbrev pub decreases-loop-part : goal.decreases-loop-part
decreases-loop-part l = l.part.high - l.part.low
