use Rattle.std.proofs.Common.{take}
use Rattle.hsr_timeline.specs.Fronts.{lists_of}
use Rattle.hsr_view.specs.Viewing.{AreSends}
use Rattle.hsr_view.proofs.viewing.probes_of.Given as goal

abbrev pub invariant-loop-send : goal.invariant-loop-send
invariant-loop-send l = AreSends (lists_of l.names) (take l.send-index l.sends) l.probes.items
