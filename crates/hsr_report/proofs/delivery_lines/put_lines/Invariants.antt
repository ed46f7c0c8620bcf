use Rattle.std.proofs.Common.{◌≡◌, ◌++◌, take}
use Rattle.std.specs.List.{flat_map}
use Rattle.hsr_report.specs.DeliveryLines.{line_if}
use Rattle.hsr_report.proofs.delivery_lines.put_lines.Given as goal

abbrev pub invariant-loop-delivery : goal.invariant-loop-delivery
invariant-loop-delivery l = l.text.items ≡ l.initial.text.items ++ flat_map (line_if l.naming) (take l.delivery-index l.sends)
