use Rattle.std.proofs.Common.{◌≡◌, length, map}
use Rattle.circular_buffer.specs.Buffer.{buffer}
use Rattle.hsr_link.specs.Rows.{lost_of}
use Rattle.hsr_link.specs.Queue.{waiting}
use Rattle.hsr_link.proofs.queue.lose_all.Given as goal

-- what is left is lost as all is
abbrev pub invariant-loop-lost : goal.invariant-loop-lost
invariant-loop-lost l = record {
  holds : l.queue ≡ buffer (waiting l.dir 0 l.rows) l.fn.queue.capacity;
  rest : map (lost_of l.dir) l.rows ≡ map (lost_of l.dir) l.fn.rows;
}

abbrev pub decreases-loop-lost : goal.decreases-loop-lost
decreases-loop-lost l = length l.queue.items
