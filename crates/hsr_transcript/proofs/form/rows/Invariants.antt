use Rattle.std.proofs.Common.{◌+◌, ◌≤◌, drop}
use Rattle.std.specs.Io.Buffered.{reader_remaining}
use Rattle.hsr_transcript.specs.Form.{carried_at}
use Rattle.hsr_transcript.specs.Items.{rows_of}
use Rattle.hsr_transcript.proofs.Eaches.{Through}
use Rattle.hsr_transcript.proofs.form.rows.Given as goal

abbrev pub invariant-loop : goal.invariant-loop
invariant-loop g l = record {
  part : Through carried_at (reader_remaining g.R.Read.remaining l.initial.reader) l.initial.progress.number l.links (reader_remaining g.R.Read.remaining l.reader) l.progress.number (drop l.index l.links) (rows_of l.rows);
  counted : l.progress.number + l.progress.reads ≤ l.initial.progress.number + l.initial.progress.reads;
}
