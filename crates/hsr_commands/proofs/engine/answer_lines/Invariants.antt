use Rattle.std.proofs.Common.{◌+◌, ◌≤◌, ◌^◌}
use Rattle.std.specs.Io.Buffered.{reader_remaining}
use Rattle.hsr_commands.proofs.Turns.{Way}
use Rattle.hsr_commands.proofs.engine.answer_lines.Given as goal

abbrev pub invariant-loop-number : goal.invariant-loop-number
invariant-loop-number g l = record {
  way : Way g.row.C l.setting (reader_remaining g.R.Read.remaining l.initial.reader) (reader_remaining g.R.Read.remaining l.reader)
      (g.W.Write.contents l.initial.writer) (g.W.Write.contents l.writer) l.node l.number;
  numbers : l.number + l.reads ≤ 2 ^ 40 + 1;
}

abbrev pub decreases-loop-number : goal.decreases-loop-number
decreases-loop-number g l = l.reads
