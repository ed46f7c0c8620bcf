use Rattle.std.proofs.Common.{◌≡◌, ◌++◌, ℕ, take}
use Rattle.std.specs.Global.{Global}
use Rattle.std.specs.Prelude.{Vec}
use Rattle.std.specs.List.{flat_map}
use Rattle.hsr_devices.specs.Cells.{right}
use Rattle.hsr_devices.proofs.listing.put_each.Given as goal

abbrev pub invariant-loop-cell : goal.invariant-loop-cell
invariant-loop-cell l = l.text.items ≡ l.initial.text.items ++ flat_map (λ (cell : Vec ℕ Global). right l.width cell.items) (take l.cell-index l.texts)
