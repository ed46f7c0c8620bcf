use Rattle.std.proofs.Common.{◌≡◌, length}
use Rattle.hsr_health.specs.Numbering.{AreGroups}
use Rattle.hsr_health.proofs.ledger.groups_of.Given as goal

-- the groups so far
abbrev pub invariant-loop-k : goal.invariant-loop-k
invariant-loop-k l = record { long : length l.groups.items ≡ l.k; groups : AreGroups l.names.items l.groups.items }
