use Rattle.std.proofs.Common.{◌≡◌, length, take}
use Rattle.hsr_taps.specs.Came.{AreLaneCounts}
use Rattle.hsr_taps.proofs.tapping.lanes_of.Given as goal

-- the copies so far are counted
abbrev pub invariant-loop-caught : goal.invariant-loop-caught
invariant-loop-caught l = record {
  long : length l.counts.items ≡ 320;
  counts : AreLaneCounts l.lane (take l.caught-index l.copies) l.counts.items;
}
