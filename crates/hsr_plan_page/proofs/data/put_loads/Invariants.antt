use Rattle.std.proofs.Common.{◌≡◌, ◌++◌, take}
use Rattle.std.specs.List.{flat_map}
use Rattle.hsr_plan_page.specs.Data.{load_row}
use Rattle.hsr_plan_page.proofs.data.put_loads.Given as goal

abbrev pub invariant-loop-load : goal.invariant-loop-load
invariant-loop-load l = l.text.items ≡ l.initial.text.items ++ flat_map load_row (take l.load-index l.loads)
