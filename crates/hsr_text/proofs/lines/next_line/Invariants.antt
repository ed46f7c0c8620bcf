use Rattle.std.proofs.Common.{◌≤◌}
use Rattle.hsr_text.specs.Lines.{Continues, Paid}
use Rattle.std.specs.Io.KnownBytes.{Consumes}
use Rattle.hsr_text.proofs.lines.next_line.Given as goal

abbrev pub invariant-loop-reads : goal.invariant-loop-reads
invariant-loop-reads g l = record {
  line : Continues (g.R.Read.remaining l.initial.reader) (g.R.Read.remaining l.reader) l.line.items;
  taken : Consumes (g.R.Read.remaining l.initial.reader) (g.R.Read.remaining l.reader) l.line.items;
  paid : Paid (g.R.Read.remaining l.initial.reader) (g.R.Read.remaining l.reader) l.initial.reads l.reads;
  reads : l.reads ≤ l.initial.reads;
}

abbrev pub decreases-loop-reads : goal.decreases-loop-reads
decreases-loop-reads g l = l.reads
