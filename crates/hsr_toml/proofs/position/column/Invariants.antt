use Rattle.std.proofs.Common.{◌≡◌, ◌≤◌, drop}
use Rattle.hsr_toml.specs.Position.{column}
use Rattle.hsr_toml.proofs.position.column.Given as goal

abbrev pub invariant-loop-b : goal.invariant-loop-b
invariant-loop-b l = (column l.column (drop l.b-index l.text) ≡ column 0 l.text) × (l.column ≤ l.b-index)
