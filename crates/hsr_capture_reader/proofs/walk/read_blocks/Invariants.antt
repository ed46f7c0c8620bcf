use Rattle.std.proofs.Common.{◌≡◌, ◌+◌, ◌≤◌, drop, length}
use Rattle.hsr_capture_reader.specs.declared.numbers.ByteOrder.TheVariants.{Little}
use Rattle.hsr_capture_reader.specs.Blocks.{blocks_past}
use Rattle.hsr_capture_reader.specs.Pcapng.{read_blocks}
use Rattle.hsr_capture_reader.proofs.walk.read_blocks.Given as goal

-- what is left answers for all
abbrev pub invariant-loop-left : goal.invariant-loop-left
invariant-loop-left l = record {
  answers : read_blocks l.fcs l.reading.read (blocks_past 0 l.offset l.order l.left) ≡ read_blocks l.fcs l.fn.reading.read (blocks_past 0 0 Little l.fn.reading.file);
  file : l.reading.file ≡ l.fn.reading.file;
  behind : l.reading.reached ≤ l.offset;
  left : l.left ≡ drop l.offset l.reading.file;
  within : l.offset + length l.left ≡ length l.reading.file;
}

abbrev pub decreases-loop-left : goal.decreases-loop-left
decreases-loop-left l = length l.left
