use Rattle.std.proofs.Common.{◌≡◌, ◌+◌, ◌≤◌, length}
use Rattle.std.specs.Io.Buffered.{reader_remaining}
use Rattle.hsr_transcript_lines.specs.Exact.{exactly}
use Rattle.hsr_transcript.specs.Reading.{line_of}
use Rattle.hsr_transcript.proofs.Parts.{Partly}
use Rattle.hsr_transcript.proofs.sections.many.Given as goal

abbrev pub invariant-loop-left : goal.invariant-loop-left
invariant-loop-left g l = record {
  part : Partly (line_of (exactly (g.K.LineKind.spelled l.kind) (g.K.LineKind.said l.kind))) (reader_remaining g.R.Read.remaining l.initial.reader) l.initial.progress.number l.count (reader_remaining g.R.Read.remaining l.reader) l.progress.number l.left l.values.items;
  counted : l.progress.number + l.progress.reads ≤ l.initial.progress.number + l.initial.progress.reads;
  numbered : l.progress.number + l.left ≡ l.initial.progress.number + l.count;
  filled : length l.values.items + l.left ≡ l.count;
}

abbrev pub decreases-loop-left : goal.decreases-loop-left
decreases-loop-left g l = l.left
