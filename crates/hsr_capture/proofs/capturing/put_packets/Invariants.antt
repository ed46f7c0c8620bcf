use Rattle.std.proofs.Common.{◌≡◌, ◌++◌, All, take}
use Rattle.std.specs.List.{flat_map}
use Rattle.hsr_timeline.specs.Fronts.{lists_of}
use Rattle.hsr_capture.specs.Capture.{packet_of}
use Rattle.hsr_capture.specs.Fits.{ShownFits}
use Rattle.hsr_capture.proofs.capturing.put_packets.Given as goal

abbrev pub invariant-loop-shown : goal.invariant-loop-shown
invariant-loop-shown g l = record {
  bytes : l.text.items ≡ l.initial.text.items ++ flat_map (packet_of (lists_of l.names) l.closed.run) (take l.shown-index l.rows);
  fits : All (ShownFits (lists_of l.names) l.closed.run) (take l.shown-index l.rows);
}
