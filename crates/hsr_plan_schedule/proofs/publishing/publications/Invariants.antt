use Rattle.std.proofs.Common.{◌≡◌, drop}
use Rattle.hsr_plan_schedule.specs.Publishing.{publications, publications_from}
use Rattle.hsr_plan_schedule.proofs.publishing.publications.Given as goal

abbrev pub invariant-loop-stream : goal.invariant-loop-stream
invariant-loop-stream l = publications_from l.until l.publications.items l.counted (drop l.stream-index l.streams) ≡ publications l.until l.streams
