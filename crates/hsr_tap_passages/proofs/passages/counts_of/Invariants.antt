use Rattle.std.proofs.Common.{◌≡◌, map}
use Rattle.std.specs.List.{range_with_len}
use Rattle.hsr_tap_passages.specs.Shown.{count_at}
use Rattle.hsr_tap_passages.proofs.passages.counts_of.Given as goal

-- the counts so far
abbrev pub invariant-loop-interface : goal.invariant-loop-interface
invariant-loop-interface l = l.counts.items ≡ map (count_at l.times l.start l.end l.packets) (range_with_len 0 l.interface)
