use Rattle.std.proofs.Common.{take}
use Rattle.hsr_audit.specs.Lossy.{AreWaysOf}
use Rattle.hsr_audit.proofs.lossy.channels_of.Given as goal

abbrev pub invariant-loop-loss : goal.invariant-loop-loss
invariant-loop-loss l = AreWaysOf (take l.loss-index l.losses) l.set
