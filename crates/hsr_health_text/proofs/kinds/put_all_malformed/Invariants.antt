use Rattle.std.proofs.Common.{◌≡◌, ◌++◌, take}
use Rattle.std.specs.List.{flat_map}
use Rattle.hsr_health_text.specs.Kinds.{malformed_line}
use Rattle.hsr_health_text.proofs.kinds.put_all_malformed.Given as goal

abbrev pub invariant-loop-kind : goal.invariant-loop-kind
invariant-loop-kind l = l.text.items ≡ l.initial.text.items ++ flat_map malformed_line (take l.kind-index l.kinds)
