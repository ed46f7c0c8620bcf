use Rattle.std.proofs.Common.{◌≡◌, drop}
use Rattle.hsr_tables.specs.Nodes.{known_row}
use Rattle.hsr_tables.proofs.nodes.find_known.Given as goal

-- what is left answers for all
abbrev pub invariant-loop-row : goal.invariant-loop-row
invariant-loop-row l = known_row l.at l.mac (drop l.row-index l.rows) ≡ known_row l.at l.mac l.rows
