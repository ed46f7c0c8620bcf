use Rattle.std.proofs.Common.{◌≡◌, length, take}
use Rattle.hsr_health.specs.Broken.{AreMarked}
use Rattle.hsr_health.proofs.broken.marks_by.Given as goal

-- those of the frames so far
abbrev pub invariant-loop-i : goal.invariant-loop-i
invariant-loop-i l = record {
  long : length l.marks.items ≡ l.many;
  marks : AreMarked l.of_copy l.way (take l.i l.seen) l.marks.items;
}
