use Rattle.std.proofs.Common.{◌≡◌, filter}
use Rattle.std.specs.List.{range_with_len}
use Rattle.hsr_devices.specs.Unheard.{is_unheard}
use Rattle.hsr_devices.proofs.unheard.unheard.Given as goal

abbrev pub invariant-loop-number : goal.invariant-loop-number
invariant-loop-number g l = l.nodes.items ≡ filter (is_unheard l.closed.run l.fn.node) (range_with_len 0 l.number)
