use Rattle.std.proofs.Common.{◌≡◌, ◌++◌, map, take}
use Rattle.std.specs.List.{flat_map}
use Rattle.hsr_run_tables.specs.Rows.{load_row}
use Rattle.hsr_run_tables.specs.Table.{IsBetween, line, written}
use Rattle.hsr_run_tables.proofs.load.put_loads.Given as goal

abbrev pub invariant-loop-load : goal.invariant-loop-load
invariant-loop-load l =
    IsBetween l.table × (written l.table ≡ written l.initial.table ++ flat_map line (map (load_row l.naming l.places) (take l.load-index l.loads)))
