use Rattle.std.proofs.Common.{◌≡◌, ◌++◌, take}
use Rattle.std.specs.List.{flat_map}
use Rattle.hsr_health_text.specs.Reasons.{reason_line}
use Rattle.hsr_health_text.proofs.reasons.put_all_reasons.Given as goal

abbrev pub invariant-loop-reason : goal.invariant-loop-reason
invariant-loop-reason l = l.text.items ≡ l.initial.text.items ++ flat_map (reason_line l.start l.points) (take l.reason-index l.reasons)
