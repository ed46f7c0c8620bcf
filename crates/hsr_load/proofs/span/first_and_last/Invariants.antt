use Rattle.std.proofs.Common.{◌≡◌, None, drop}
use Rattle.std.specs.Prelude.{fold}
use Rattle.hsr_load.specs.Loads.{wider_by}
use Rattle.hsr_load.proofs.span.first_and_last.Given as goal

abbrev pub invariant-loop-channel : goal.invariant-loop-channel
invariant-loop-channel l = fold wider_by l.ends (drop l.channel-index l.channels) ≡ fold wider_by None l.channels
