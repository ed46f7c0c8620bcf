use Rattle.std.proofs.Common.{◌≡◌, ◌++◌, All, take}
use Rattle.std.specs.List.{flat_map}
use Rattle.hsr_stimuli.specs.Capture.{StimulusFits, packet_of}
use Rattle.hsr_stimuli.proofs.capturing.put_stimuli.Given as goal

abbrev pub invariant-loop-stimulus : goal.invariant-loop-stimulus
invariant-loop-stimulus l = record {
  bytes : l.text.items ≡ l.initial.text.items ++ flat_map packet_of (take l.stimulus-index l.list);
  fits : All StimulusFits (take l.stimulus-index l.list);
}
