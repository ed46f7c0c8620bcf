use Rattle.std.proofs.Common.{◌≡◌, ℕ, Bool, List, length}
use Rattle.hsr_health.specs.Counted.{AreCounted, AreSources, mark_of}
use Rattle.hsr_sightings.specs.Read.{TellsEach}
use Rattle.hsr_sightings.specs.Ring.{Ring}
use Rattle.hsr_health.proofs.counts.count_copies.Given as goal

-- the copies so far are counted
abbrev pub invariant-loop-i : goal.invariant-loop-i
invariant-loop-i l = record {
  long : length l.counts.items ≡ length l.fn.counts.items;
  counts : (is_by_lane : ℕ → Bool) (ring : Ring) (macs : List (List ℕ)) → TellsEach (mark_of is_by_lane ring) l.copies l.marks → AreSources l.copies macs l.of_copy
      → AreCounted is_by_lane ring l.copies macs 0 l.fn.counts.items → AreCounted is_by_lane ring l.copies macs l.i l.counts.items;
}
