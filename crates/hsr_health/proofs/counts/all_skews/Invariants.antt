use Rattle.std.proofs.Common.{◌≡◌, take}
use Rattle.std.specs.Prelude.{filter_map}
use Rattle.hsr_health.specs.Counted.{told_by}
use Rattle.hsr_spread.specs.Spreads.{AreTold, many_of}
use Rattle.hsr_health.proofs.counts.all_skews.Given as goal

-- those of the sightings so far
abbrev pub invariant-loop-seen : goal.invariant-loop-seen
invariant-loop-seen l = record {
  many : many_of l.all ≡ l.many;
  told : AreTold (filter_map (told_by l.of_copy) (take l.seen-index l.sightings)) l.all;
}
