use Rattle.std.proofs.Common.{◌≡◌}
use Rattle.hsr_plan_payload.specs.Payload.{sampled_asdus}
use Rattle.hsr_plan_payload.proofs.sampled_values.asdus.Given as goal

abbrev pub invariant-loop-number : goal.invariant-loop-number
invariant-loop-number l = l.out.items ≡ sampled_asdus l.publisher l.rate l.first l.spare l.number
