use Rattle.std.proofs.Common.{take}
use Rattle.hsr_load.specs.Loads.{AreLoads}
use Rattle.hsr_load.proofs.loading.loads.Given as goal

abbrev pub invariant-loop-channel : goal.invariant-loop-channel
invariant-loop-channel l = AreLoads l.fn.time (take l.channel-index l.channels) l.loads.items
