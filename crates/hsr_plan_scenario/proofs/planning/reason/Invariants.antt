use Rattle.std.proofs.Common.{◌≡◌, true}
use Rattle.hsr_plan_text.specs.Words.{is_title}
use Rattle.hsr_plan_scenario.proofs.planning.reason.Given as goal

abbrev pub invariant-loop-octet : goal.invariant-loop-octet
invariant-loop-octet l = is_title l.why.items ≡ true
