use Rattle.std.proofs.Common.{◌≡◌}
use Rattle.std.specs.List.{flat_map, range_with_len}
use Rattle.hsr_judging_text.specs.Ports.{delay_of}
use Rattle.hsr_judging_text.proofs.ports.delays_at.Given as goal

abbrev pub invariant-loop-k : goal.invariant-loop-k
invariant-loop-k l = l.delays.items ≡ flat_map (delay_of l.judgement l.end) (range_with_len 0 l.k)
