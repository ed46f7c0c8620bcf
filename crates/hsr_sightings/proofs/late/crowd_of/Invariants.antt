use Rattle.std.proofs.Common.{map}
use Rattle.hsr_sightings.specs.Crowding.{IsCrowding, begun_by}
use Rattle.hsr_sightings.proofs.late.crowd_of.Given as goal

-- the copies so far are in the crowds
abbrev pub invariant-loop-i : goal.invariant-loop-i
invariant-loop-i l = IsCrowding l.ring l.copies l.point l.i (map (begun_by l.copies) l.crowding.things.items) l.crowding.from l.crowding.most
