use Rattle.std.proofs.Common.{◌≡◌, ◌++◌, take}
use Rattle.std.specs.List.{flat_map}
use Rattle.hsr_devices.specs.Lines.{cell_text}
use Rattle.hsr_devices.proofs.lines.put_cells.Given as goal

abbrev pub invariant-loop-cell : goal.invariant-loop-cell
invariant-loop-cell l = l.text.items ≡ l.initial.text.items ++ flat_map (cell_text l.width) (take l.cell-index l.cells)
