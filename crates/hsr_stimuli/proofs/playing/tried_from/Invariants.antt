use Rattle.std.proofs.Common.{◌≡◌, ◌++◌, drop}
use Rattle.hsr_stimuli.specs.Playing.{tried_from}
use Rattle.hsr_stimuli.proofs.playing.tried_from.Given as goal

abbrev pub invariant-loop-stimulus : goal.invariant-loop-stimulus
invariant-loop-stimulus g l = l.tried.items ++ tried_from g.row.C l.node (drop l.stimulus-index l.list) ≡ tried_from g.row.C l.fn.node l.list
