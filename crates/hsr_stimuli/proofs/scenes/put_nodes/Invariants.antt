use Rattle.std.proofs.Common.{◌≡◌, ◌++◌}
use Rattle.hsr_stimuli.specs.Scenes.{below, node}
use Rattle.hsr_stimuli.proofs.scenes.put_nodes.Given as goal

abbrev pub invariant-loop-n : goal.invariant-loop-n
invariant-loop-n l = l.list.items ≡ l.initial.list.items ++ below (node l.scene) l.n
