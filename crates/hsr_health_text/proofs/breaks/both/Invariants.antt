use Rattle.std.proofs.Common.{◌≡◌, take}
use Rattle.std.specs.List.{flat_map}
use Rattle.hsr_health_text.specs.Breaks.{if_among}
use Rattle.hsr_health_text.proofs.breaks.both.Given as goal

abbrev pub invariant-loop-mac : goal.invariant-loop-mac
invariant-loop-mac l = l.common.items ≡ flat_map (if_among l.others) (take l.mac-index l.macs)
