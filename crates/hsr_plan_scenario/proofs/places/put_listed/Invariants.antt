use Rattle.std.proofs.Common.{◌≡◌, ◌++◌, take}
use Rattle.hsr_plan_scenario.specs.Spelled.{listed}
use Rattle.hsr_plan_scenario.proofs.places.put_listed.Given as goal

abbrev pub invariant-loop-i : goal.invariant-loop-i
invariant-loop-i l = l.text.items ≡ l.initial.text.items ++ listed (λ n. n) (take l.i l.names)
