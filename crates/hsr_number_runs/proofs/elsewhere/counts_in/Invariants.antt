use Rattle.std.proofs.Common.{◌≡◌, map, take}
use Rattle.hsr_number_runs.proofs.elsewhere.counts_in.Given as goal

abbrev pub invariant-loop-own : goal.invariant-loop-own
invariant-loop-own l = l.counts.items ≡ map (λ t. t.count) (take l.own-index l.told)
