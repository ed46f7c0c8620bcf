use Rattle.std.proofs.Common.{◌≡◌, ◌++◌}
use Rattle.hsr_stimuli.specs.Scenes.{below, fill}
use Rattle.hsr_stimuli.proofs.memory.put_fill.Given as goal

abbrev pub invariant-loop-n : goal.invariant-loop-n
invariant-loop-n l = l.list.items ≡ l.initial.list.items ++ below (fill l.scene l.step) l.n
