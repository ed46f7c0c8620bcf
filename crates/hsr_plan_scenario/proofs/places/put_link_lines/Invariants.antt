use Rattle.std.proofs.Common.{◌≡◌, ◌++◌, take}
use Rattle.hsr_plan_scenario.specs.Spelled.{link_lines}
use Rattle.hsr_plan_scenario.proofs.places.put_link_lines.Given as goal

abbrev pub invariant-loop-number : goal.invariant-loop-number
invariant-loop-number l = l.text.items ≡ l.initial.text.items ++ link_lines l.nodes (take l.number l.links)
