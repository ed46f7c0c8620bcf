use Rattle.std.proofs.Common.{◌≡◌, ℕ, List, length, take}
use Rattle.hsr_health.specs.Counted.{AreFated, AreSources, HaveNoFates}
use Rattle.hsr_sightings.specs.Read.{AreSightings}
use Rattle.hsr_health.proofs.counts.count_fates.Given as goal

-- what became of the frames so far
abbrev pub invariant-loop-i : goal.invariant-loop-i
invariant-loop-i l = record {
  long : length l.counts.items ≡ length l.fn.counts.items;
  counts : (macs : List (List ℕ)) (numbers : List ℕ) → AreSources l.copies macs l.of_copy → AreSightings l.ring l.copies l.sightings numbers
      → HaveNoFates macs l.fn.counts.items → AreFated l.ring l.copies macs l.fn.counts.items (take l.i l.sightings) l.counts.items;
}
