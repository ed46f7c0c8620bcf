use Rattle.std.proofs.Common.{◌≡◌, None, drop}
use Rattle.std.specs.Prelude.{fold}
use Rattle.hsr_latency.specs.Kept.{greater}
use Rattle.hsr_latency.proofs.greatest.greatest_of.Given as goal

abbrev pub invariant-loop-delay : goal.invariant-loop-delay
invariant-loop-delay l = fold greater l.most (drop l.delay-index l.delays) ≡ fold greater None l.delays
