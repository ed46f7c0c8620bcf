use Rattle.std.proofs.Common.{◌≡◌, take}
use Rattle.std.specs.Prelude.{filter_map}
use Rattle.hsr_health.specs.Numbering.{life_number}
use Rattle.hsr_health.proofs.ledger.life_runs.Given as goal

-- those so far are in their runs
abbrev pub invariant-loop-one : goal.invariant-loop-one
invariant-loop-one l = l.so_far ≡ filter_map (life_number l.of_copy) (take l.one-index l.heard)
