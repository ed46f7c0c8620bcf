use Rattle.std.proofs.Common.{ℕ, ◌<◌, ◌≡◌, ◌++◌, drop, slice_index_or}
use Rattle.hsr_transcript_lines.specs.Lines.{lines_by, one, text_of}
use Rattle.hsr_transcript_lines.proofs.lines.put_section.Given as goal

abbrev pub invariant-loop-value : goal.invariant-loop-value
invariant-loop-value g l = record {
  written : l.text.items ++ text_of (lines_by (one (g.K.LineKind.spelled l.kind)) (drop l.value-index l.values)) ≡ l.initial.text.items ++ text_of (lines_by (one (g.K.LineKind.spelled l.kind)) l.values);
  fit : (k : ℕ) (d : g.row.K-Value.Denot) → k < l.value-index → g.K.LineKind.fits l.kind (slice_index_or l.values k d);
}
