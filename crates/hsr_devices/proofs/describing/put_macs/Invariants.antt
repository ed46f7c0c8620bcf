use Rattle.std.proofs.Common.{◌≡◌, ◌++◌, take}
use Rattle.std.specs.List.{flat_map}
use Rattle.hsr_devices.specs.Describing.{next_mac}
use Rattle.hsr_devices.proofs.describing.put_macs.Given as goal

abbrev pub invariant-loop-mac : goal.invariant-loop-mac
invariant-loop-mac l = l.text.items ≡ l.initial.text.items ++ flat_map next_mac (take l.mac-index l.macs)
