use Rattle.std.proofs.Common.{◌≡◌, ◌++◌, drop}
use Rattle.hsr_plan_schedule.specs.Naming.{names_from, stream_names}
use Rattle.hsr_plan_schedule.proofs.naming.stream_names.Given as goal

abbrev pub invariant-loop-stream : goal.invariant-loop-stream
invariant-loop-stream l = l.names.items ++ names_from l.counts (drop l.stream-index l.streams) ≡ stream_names l.streams
