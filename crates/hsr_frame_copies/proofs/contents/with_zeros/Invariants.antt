use Rattle.std.proofs.Common.{◌≡◌, ◌-◌, ◌++◌, length, replicate}
use Rattle.hsr_frame_copies.proofs.contents.with_zeros.Given as goal

-- so many zeros stand behind the octets
abbrev pub invariant-loop : goal.invariant-loop
invariant-loop l = l.filled.items ≡ l.octets ++ replicate (l.counter - length l.octets) 0
