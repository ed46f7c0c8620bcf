use Rattle.std.proofs.Common.{◌≡◌, ◌++◌, take}
use Rattle.std.specs.List.{flat_map}
use Rattle.hsr_run_page.specs.Rows.{mac_cell}
use Rattle.hsr_run_page.proofs.rows.put_addresses.Given as goal

abbrev pub invariant-loop-mac : goal.invariant-loop-mac
invariant-loop-mac l = l.text.items ≡ l.initial.text.items ++ flat_map mac_cell (take l.mac-index l.macs)
