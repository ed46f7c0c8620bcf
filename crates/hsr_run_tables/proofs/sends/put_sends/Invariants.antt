use Rattle.std.proofs.Common.{◌≡◌, ◌++◌, map, take}
use Rattle.std.specs.List.{flat_map}
use Rattle.hsr_run_tables.specs.Rows.{send_row}
use Rattle.hsr_run_tables.specs.Table.{IsBetween, line, written}
use Rattle.hsr_run_tables.proofs.sends.put_sends.Given as goal

abbrev pub invariant-loop-delivery : goal.invariant-loop-delivery
invariant-loop-delivery l =
    IsBetween l.table × (written l.table ≡ written l.initial.table ++ flat_map line (map (send_row l.naming) (take l.delivery-index l.sends)))
