use Rattle.std.proofs.Common.{◌≡◌, ◌++◌, drop, map}
use Rattle.hsr_frame_groups.specs.Frames.{frame_time}
use Rattle.hsr_recent_table.specs.Ready.{HaveCome}
use Rattle.hsr_sightings.specs.Passed.{AreTops, beside_keyed}
use Rattle.hsr_sightings.specs.Read.{overtaken_from}
use Rattle.hsr_sightings.proofs.overtaken.overtaken_of.Given as goal

-- the copies so far have come, and of each the greatest so far is told; those that were overtaken and those of the copies that are left are all
abbrev pub invariant-loop-i : goal.invariant-loop-i
invariant-loop-i l = record {
  come : HaveCome frame_time (map beside_keyed l.copies) l.i l.previous;
  tops : AreTops l.copies l.i l.tops.items;
  told : l.overtaken.items ++ overtaken_from l.copies l.i (drop l.i l.copies) ≡ overtaken_from l.copies 0 l.copies;
}
