use Rattle.std.proofs.Common.{◌≡◌, ◌++◌, drop}
use Rattle.std.specs.Prelude.{filter_map}
use Rattle.hsr_timeline.specs.Causes.{hop_pair}
use Rattle.hsr_timeline.proofs.pairs.hop_pairs.Given as goal

abbrev pub invariant-loop-i : goal.invariant-loop-i
invariant-loop-i l = l.pairs.items ++ filter_map hop_pair (drop l.i l.hops) ≡ filter_map hop_pair l.hops
