use Rattle.std.proofs.Common.{◌≡◌, ◌++◌, take}
use Rattle.std.specs.List.{flat_map}
use Rattle.hsr_health_text.specs.Reasons.{absent_line}
use Rattle.hsr_health_text.proofs.reasons.put_all_absent.Given as goal

abbrev pub invariant-loop-mac : goal.invariant-loop-mac
invariant-loop-mac l = l.text.items ≡ l.initial.text.items ++ flat_map absent_line (take l.mac-index l.macs)
