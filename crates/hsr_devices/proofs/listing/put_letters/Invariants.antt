use Rattle.std.proofs.Common.{◌≡◌, ◌++◌, take}
use Rattle.std.specs.List.{flat_map}
use Rattle.hsr_devices.specs.Listing.{letter_cell}
use Rattle.hsr_devices.proofs.listing.put_letters.Given as goal

abbrev pub invariant-loop-letter : goal.invariant-loop-letter
invariant-loop-letter l = l.text.items ≡ l.initial.text.items ++ flat_map (letter_cell l.width) (take l.letter-index l.letters)
