use Rattle.std.proofs.Common.{◌≡◌, ◌++◌, drop}
use Rattle.hsr_latency.specs.Delays.{delays_from}
use Rattle.hsr_latency.proofs.delaying.delays.Given as goal

abbrev pub invariant-loop-i : goal.invariant-loop-i
invariant-loop-i g l =
    l.list.items ++ delays_from l.fn.which l.moments l.fn.node l.i (drop l.i l.entries) ≡ delays_from l.fn.which l.moments l.fn.node 0 l.entries
