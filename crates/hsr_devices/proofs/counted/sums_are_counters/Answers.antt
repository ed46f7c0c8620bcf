use Rattle.hsr_devices.proofs.Summing.{sums_are}
use Rattle.hsr_devices.proofs.counted.sums_are_counters.Goals as goal

pub returns : goal.returns
returns c = sums_are
