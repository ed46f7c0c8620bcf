use Rattle.std.proofs.Common.{ℕ, ◌<◌, ◌≡◌, ◌++◌, drop}
use Rattle.hsr_run_laws.specs.Run.{rows_of}
use Rattle.hsr_transcript.specs.Fits.{AreRowsFit}
use Rattle.hsr_transcript_lines.specs.Lines.{lines_each, text_of}
use Rattle.hsr_transcript.specs.Transcript.{carried_lines}
use Rattle.hsr_transcript.proofs.writing.put_carried.Given as goal

abbrev pub invariant-loop-i : goal.invariant-loop-i
invariant-loop-i g l = record {
  written : l.text.items ++ text_of (lines_each (λ _. carried_lines) (drop l.i l.closed.run.links) (drop l.i l.closed.run.rows)) ≡ l.initial.text.items ++ text_of (lines_each (λ _. carried_lines) l.closed.run.links l.closed.run.rows);
  fit : (k : ℕ) → k < l.i → AreRowsFit (rows_of l.closed.run k);
}
