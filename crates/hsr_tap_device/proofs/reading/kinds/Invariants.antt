use Rattle.std.proofs.Common.{◌≡◌}
use Rattle.toml.specs.View.{members_view}
use Rattle.hsr_tap_device.specs.Reading.{kinds}
use Rattle.hsr_tap_device.proofs.reading.kinds.Given as goal

abbrev pub invariant-loop-word : goal.invariant-loop-word
invariant-loop-word l = kinds (members_view l.word-iterator) ≡ kinds (members_view l.table.entries)
