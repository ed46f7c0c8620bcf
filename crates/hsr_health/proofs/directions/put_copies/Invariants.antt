use Rattle.std.proofs.Common.{◌≡◌, ℕ, Bool, length}
use Rattle.hsr_health.specs.Counted.{AreDirected, mark_of}
use Rattle.hsr_sightings.specs.Copies.{times_before}
use Rattle.hsr_sightings.specs.Read.{TellsEach}
use Rattle.hsr_sightings.specs.Ring.{Ring}
use Rattle.hsr_health.proofs.directions.put_copies.Given as goal

-- the copies so far are counted
abbrev pub invariant-loop-i : goal.invariant-loop-i
invariant-loop-i l = record {
  long : length l.all.items ≡ length l.fn.all.items;
  all : (is_by_lane : ℕ → Bool) (ring : Ring) → TellsEach times_before l.copies l.carried → TellsEach (mark_of is_by_lane ring) l.copies l.marks
      → AreDirected ring l.copies 0 l.fn.all.items → AreDirected ring l.copies l.i l.all.items;
}
