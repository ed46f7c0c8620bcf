use Rattle.std.proofs.Common.{◌≡◌, ◌++◌, take}
use Rattle.std.specs.List.{flat_map}
use Rattle.hsr_tap.specs.Examining.{interfaces_of}
use Rattle.hsr_tap.proofs.examining.put_all_interfaces.Given as goal

abbrev pub invariant-loop-point : goal.invariant-loop-point
invariant-loop-point l = l.numbers.items ≡ l.initial.numbers.items ++ flat_map interfaces_of (take l.point-index l.points)
