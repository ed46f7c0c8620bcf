use Rattle.std.proofs.Common.{◌≡◌, ◌+◌, ◌≤◌, drop, length}
use Rattle.std.specs.Io.Buffered.{reader_remaining}
use Rattle.hsr_transcript.specs.Form.{record_at}
use Rattle.hsr_transcript_lines.specs.Lines.{line_count}
use Rattle.hsr_transcript.specs.Items.{entries_of}
use Rattle.hsr_transcript.proofs.Eaches.{Through}
use Rattle.hsr_transcript.proofs.form.records.Given as goal

abbrev pub invariant-loop-i : goal.invariant-loop-i
invariant-loop-i g l = record {
  part : Through (record_at l.unit) (reader_remaining g.R.Read.remaining l.initial.reader) l.initial.progress.number l.nodes (reader_remaining g.R.Read.remaining l.reader) l.progress.number (drop l.i l.nodes) (entries_of l.records);
  counted : l.progress.number + l.progress.reads ≤ l.initial.progress.number + l.initial.progress.reads;
  numbered : l.progress.number ≡ l.initial.progress.number + line_count (entries_of l.records);
  filled : length l.records.items ≡ l.i;
}
