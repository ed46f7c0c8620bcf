use Rattle.std.proofs.Common.{◌≡◌, map, take}
use Rattle.hsr_health.specs.Numbering.{group_name}
use Rattle.hsr_health.proofs.ledger.names_of.Given as goal

-- those so far
abbrev pub invariant-loop-mac : goal.invariant-loop-mac
invariant-loop-mac l = l.names.items ≡ map (group_name l.abouts) (take l.mac-index l.macs)
