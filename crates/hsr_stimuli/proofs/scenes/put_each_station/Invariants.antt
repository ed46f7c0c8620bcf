use Rattle.std.proofs.Common.{◌≡◌, ◌++◌}
use Rattle.hsr_stimuli.specs.Scenes.{below, station}
use Rattle.hsr_stimuli.proofs.scenes.put_each_station.Given as goal

abbrev pub invariant-loop-n : goal.invariant-loop-n
invariant-loop-n l = l.list.items ≡ l.initial.list.items ++ below (station l.ring) l.n
