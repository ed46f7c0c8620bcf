use Rattle.std.proofs.Common.{◌≡◌, length}
use Rattle.hsr_frame_groups.specs.Frames.{past_of}
use Rattle.hsr_sightings.specs.Again.{AreMost}
use Rattle.hsr_sightings.proofs.again.most_of.Given as goal

-- the most of the copies so far
abbrev pub invariant-loop-i : goal.invariant-loop-i
invariant-loop-i l = record {
  long : length l.most.items ≡ 512;
  most : AreMost (past_of l.copies l.i) l.most.items;
}
