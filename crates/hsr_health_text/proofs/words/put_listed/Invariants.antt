use Rattle.std.proofs.Common.{◌≡◌, ◌++◌, take}
use Rattle.std.specs.List.{flat_map}
use Rattle.hsr_health_text.specs.Words.{comma_text}
use Rattle.hsr_health_text.proofs.words.put_listed.Given as goal

abbrev pub invariant-loop-mac : goal.invariant-loop-mac
invariant-loop-mac l = l.text.items ≡ l.initial.text.items ++ flat_map comma_text (take l.mac-index l.macs)
