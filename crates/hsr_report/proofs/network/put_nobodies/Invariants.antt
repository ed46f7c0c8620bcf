use Rattle.std.proofs.Common.{◌≡◌, ◌++◌, take}
use Rattle.std.specs.List.{flat_map}
use Rattle.hsr_report.specs.Report.{nobody_if}
use Rattle.hsr_report.proofs.network.put_nobodies.Given as goal

abbrev pub invariant-loop-delivery : goal.invariant-loop-delivery
invariant-loop-delivery l = l.text.items ≡ l.initial.text.items ++ flat_map (nobody_if l.naming) (take l.delivery-index l.sends)
