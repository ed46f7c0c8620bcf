use Rattle.std.proofs.Common.{◌≡◌, take}
use Rattle.std.specs.List.{flat_map}
use Rattle.hsr_diagram_layout.specs.Telling.{incomplete_if}
use Rattle.hsr_diagram_layout.proofs.telling.incomplete.Given as goal

abbrev pub invariant-loop-sent : goal.invariant-loop-sent
invariant-loop-sent l = l.numbers.items ≡ flat_map (incomplete_if l.deliveries) (take l.sent-index l.sends)
