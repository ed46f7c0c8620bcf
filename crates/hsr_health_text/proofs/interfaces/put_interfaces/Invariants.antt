use Rattle.std.proofs.Common.{◌≡◌, ◌++◌}
use Rattle.std.specs.List.{flat_map, range_with_len}
use Rattle.hsr_health_text.specs.Interfaces.{line_at}
use Rattle.hsr_health_text.proofs.interfaces.put_interfaces.Given as goal

abbrev pub invariant-loop-i : goal.invariant-loop-i
invariant-loop-i l = l.text.items ≡ l.initial.text.items ++ flat_map (line_at l.asked l.health) (range_with_len 0 l.i)
