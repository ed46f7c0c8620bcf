use Rattle.std.proofs.Common.{ℕ, ◌<◌, ◌≡◌, ◌++◌, drop}
use Rattle.hsr_run_laws.specs.Run.{record_of}
use Rattle.hsr_transcript.specs.Fits.{AreEntriesFit}
use Rattle.hsr_transcript_lines.specs.Lines.{lines_each, text_of}
use Rattle.hsr_text.specs.declared.time_unit.TimeUnit.TheVariants.{Microseconds}
use Rattle.hsr_transcript.specs.Transcript.{record_lines}
use Rattle.hsr_transcript.proofs.writing.put_records.Given as goal

abbrev pub invariant-loop-i : goal.invariant-loop-i
invariant-loop-i g l = record {
  written : l.text.items ++ text_of (lines_each (record_lines Microseconds) (drop l.i l.closed.run.places) (drop l.i l.closed.run.records)) ≡ l.initial.text.items ++ text_of (lines_each (record_lines Microseconds) l.closed.run.places l.closed.run.records);
  fit : (k : ℕ) → k < l.i → AreEntriesFit (record_of l.closed.run k);
}
