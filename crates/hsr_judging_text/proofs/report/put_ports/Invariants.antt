use Rattle.std.proofs.Common.{◌≡◌, ◌++◌, take}
use Rattle.std.specs.List.{flat_map}
use Rattle.hsr_judging_text.specs.Ports.{port_lines}
use Rattle.hsr_judging_text.proofs.report.put_ports.Given as goal

abbrev pub invariant-loop-end : goal.invariant-loop-end
invariant-loop-end l = l.text.items ≡ l.initial.text.items ++ flat_map (port_lines l.full l.scene l.taps) (take l.end-index l.ends)
