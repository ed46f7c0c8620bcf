use Rattle.std.proofs.Common.{◌≡◌, take}
use Rattle.std.specs.List.{sum_by}
use Rattle.hsr_devices.specs.Port.{octets_among}
use Rattle.hsr_devices.proofs.port.octets.Given as goal

abbrev pub invariant-loop-row : goal.invariant-loop-row
invariant-loop-row l = l.sum ≡ sum_by (octets_among l.fn.copies l.fn.dir) (take l.row-index l.rows)
