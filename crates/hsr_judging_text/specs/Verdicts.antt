-- Whether a device conforms, by its judgement, and which tables its reference may have.
use Rattle.std.specs.Prelude.{ℕ, ◌==◌, ◌||◌, Bool, List, is_some}
use Rattle.hsr_table_size.specs.Sizes.{table_with}
use Rattle.hsr_tap_device.specs.Device.{DeviceFields}
use Rattle.hsr_playback.specs.declared.passage.Passage.{Passage}
use Rattle.hsr_playback.specs.declared.taps.Taps.{Taps}
use Rattle.hsr_judging.specs.Fates.{conforms}
use Rattle.hsr_judging.specs.Judged.{JudgementFields, judged}

abbrev pub verdict_of : JudgementFields → Bool
verdict_of j = conforms j.observed_fates j.expected_fates

-- there are tables of so many entries: of a size that `--table` has, of 1 and of 2
abbrev pub has_table : ℕ → Bool
has_table entries = is_some (table_with entries) || ((entries == 1) || (entries == 2))

-- by passages: its tables have as many entries as is said of it
abbrev pub judged_by : DeviceFields → Taps → List Passage → ℕ → JudgementFields
judged_by device taps passages last = judged device.table device taps passages last
