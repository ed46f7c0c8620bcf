use Rattle.std.proofs.Common.{◌≡◌, ◌++◌, take}
use Rattle.std.specs.List.{flat_map}
use Rattle.hsr_health_text.specs.Kinds.{untagged_line}
use Rattle.hsr_health_text.proofs.kinds.put_all_untagged.Given as goal

abbrev pub invariant-loop-kind : goal.invariant-loop-kind
invariant-loop-kind l = l.text.items ≡ l.initial.text.items ++ flat_map untagged_line (take l.kind-index l.kinds)
