use Rattle.std.proofs.Common.{◌≡◌, ◌++◌, All, take}
use Rattle.std.specs.List.{flat_map}
use Rattle.hsr_stimuli.specs.Capture.{LetterFits, interface_of}
use Rattle.hsr_stimuli.proofs.capturing.put_interfaces.Given as goal

abbrev pub invariant-loop-letter : goal.invariant-loop-letter
invariant-loop-letter l = record {
  bytes : l.text.items ≡ l.initial.text.items ++ flat_map interface_of (take l.letter-index l.letters);
  fits : All LetterFits (take l.letter-index l.letters);
}
