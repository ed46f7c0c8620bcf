use Rattle.std.proofs.Common.{◌≡◌, ◌+◌, drop, map, take}
use Rattle.hsr_transcript.specs.Items.{entry_items}
use Rattle.hsr_transcript_lines.specs.Lines.{line_count}
use Rattle.hsr_transcript.specs.Replay.{AreLegal, records_from}
use Rattle.hsr_transcript.proofs.replay.replay_all.Given as goal

abbrev pub invariant-loop-i : goal.invariant-loop-i
invariant-loop-i g l = record {
  replayed : l.kept.items ≡ records_from 0 (take l.i l.places) (take l.i (map entry_items l.initial.records));
  legal : AreLegal g.row.C l.kept.items;
  lined : l.line ≡ l.first + line_count (take l.i (map entry_items l.initial.records));
  left : drop l.i l.records ≡ drop l.i l.initial.records;
}
