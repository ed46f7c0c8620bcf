use Rattle.std.proofs.Common.{◌≡◌, ◌++◌, take}
use Rattle.std.specs.Prelude.{filter_map}
use Rattle.hsr_node.specs.declared.event.Probe.{Probe}
use Rattle.hsr_deliveries.specs.Counted.{losses_in}
use Rattle.hsr_deliveries.specs.Delivered.{loss_of}
use Rattle.hsr_deliveries.proofs.losses.keep_rows.Given as goal

abbrev pub invariant-loop-row : goal.invariant-loop-row
invariant-loop-row l = (send : Probe) → losses_in l.kept send ≡ losses_in l.initial.kept send ++ filter_map (loss_of send l.fn.link) (take l.row-index l.rows)
