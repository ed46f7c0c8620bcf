use Rattle.std.proofs.Common.{ℕ, List}
use Rattle.hsr_health.specs.Broken.{AreRuns, Run, kept}
use Rattle.hsr_health.specs.Counted.{AreSources}
use Rattle.hsr_sightings.specs.Read.{AreSightings}
use Rattle.hsr_health.proofs.Breaking.{IsRunning, spans_to}
use Rattle.hsr_health.proofs.broken.put_runs.Given as goal

-- the runs of the frames so far
abbrev pub invariant-loop-i : goal.invariant-loop-i
invariant-loop-i l = (numbers : List ℕ) (before : List Run) → AreSources l.copies l.macs l.of_copy → AreSightings l.ring l.copies l.sightings numbers → AreRuns l.ring l.macs before l.fn.spans.items
    → IsRunning l.ring l.copies l.macs l.point before (spans_to l.ring l.copies l.point l.i) (kept l.spans.items l.going)
