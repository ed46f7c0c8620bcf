use Rattle.std.proofs.Common.{◌≡◌, [], drop}
use Rattle.hsr_plan_schedule.specs.Senders.{sources}
use Rattle.hsr_plan_schedule.proofs.senders.sources.Given as goal

abbrev pub invariant-loop-name : goal.invariant-loop-name
invariant-loop-name l = sources l.nodes l.dst l.senders.items (drop l.name-index l.names) ≡ sources l.nodes l.dst [] l.names
