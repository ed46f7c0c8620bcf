use Rattle.std.proofs.Common.{ℕ, List, ◌<◌, ◌≡◌, ◌++◌, map, drop, slice_index_or}
use Rattle.hsr_frame.specs.Address.{IsAddress}
use Rattle.hsr_transcript_lines.proofs.Grown.{behind}
use Rattle.hsr_transcript_lines.proofs.places.put_station.Given as goal
use Rattle.hsr_text.specs.Words.{mac_text}

abbrev pub invariant-loop-mac : goal.invariant-loop-mac
invariant-loop-mac l = record {
  written : l.text.items ++ behind (map mac_text (drop l.mac-index l.macs)) ≡ l.initial.text.items ++ behind (map mac_text l.macs);
  fit : (k : ℕ) (d : List ℕ) → k < l.mac-index → IsAddress (slice_index_or l.macs k d);
}
