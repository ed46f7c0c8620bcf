use Rattle.std.proofs.Common.{◌≡◌, map, take}
use Rattle.hsr_taps.specs.Tallies.{taps_by}
use Rattle.hsr_taps.proofs.tapping.taps_of.Given as goal

abbrev pub invariant-loop-tally : goal.invariant-loop-tally
invariant-loop-tally l = l.taps.items ≡ map (taps_by l.asked) (take l.tally-index l.tallies)
