use Rattle.std.proofs.Common.{◌≡◌}
use Rattle.hsr_devices.specs.Lines.{counts}
use Rattle.hsr_devices.proofs.lines.counts.Given as goal

abbrev pub invariant-loop-port : goal.invariant-loop-port
invariant-loop-port l = l.cells.items ≡ counts l.columns.entries.now l.port l.what
