use Rattle.std.proofs.Common.{◌≡◌, ◌++◌, length}
use Rattle.std.specs.Prelude.{reverse}
use Rattle.hsr_taps.specs.Came.{copies_in, strays_in}
use Rattle.hsr_taps.proofs.tapping.sorted_back.Given as goal

-- what is found in those that are left stands in front of what was found
abbrev pub invariant-loop-packet : goal.invariant-loop-packet
invariant-loop-packet l = record {
  copies : copies_in l.looked_at l.taps l.left.items ++ reverse l.sorted.copies.items ≡ copies_in l.looked_at l.taps l.fn.packets.items;
  strays : strays_in l.looked_at l.taps l.left.items ++ reverse l.sorted.strays.items ≡ strays_in l.looked_at l.taps l.fn.packets.items;
}

abbrev pub decreases-loop-packet : goal.decreases-loop-packet
decreases-loop-packet l = length l.left.items
