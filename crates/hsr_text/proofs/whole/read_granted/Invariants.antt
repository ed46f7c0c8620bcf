use Rattle.std.specs.Io.KnownBytes.{Consumes}
use Rattle.hsr_text.proofs.whole.read_granted.Given as goal

abbrev pub invariant-loop-reads : goal.invariant-loop-reads
invariant-loop-reads g l = Consumes (g.R.Read.remaining l.initial.reader) (g.R.Read.remaining l.reader) l.text.items

abbrev pub decreases-loop-reads : goal.decreases-loop-reads
decreases-loop-reads g l = l.reads
