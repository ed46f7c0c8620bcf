use Rattle.std.proofs.Common.{◌≡◌, ◌++◌, take}
use Rattle.hsr_plan_scenario.specs.Spelled.{listed, mac_text}
use Rattle.hsr_plan_scenario.proofs.places.put_listed_macs.Given as goal

abbrev pub invariant-loop-i : goal.invariant-loop-i
invariant-loop-i l = l.text.items ≡ l.initial.text.items ++ listed mac_text (take l.i l.macs)
