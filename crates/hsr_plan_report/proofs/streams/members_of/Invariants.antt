use Rattle.std.proofs.Common.{◌≡◌, ◌++◌, drop}
use Rattle.hsr_plan_report.specs.StreamRows.{members}
use Rattle.hsr_plan_report.proofs.streams.members_of.Given as goal

abbrev pub invariant-loop-index : goal.invariant-loop-index
invariant-loop-index l = l.list.items ++ members l.streams l.fn.last l.index (drop l.index l.deliveries) ≡ members l.streams l.fn.last 0 l.deliveries
