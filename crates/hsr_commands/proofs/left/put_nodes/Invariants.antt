use Rattle.std.proofs.Common.{◌≡◌, ◌++◌, ◌≤◌}
use Rattle.hsr_commands.specs.OpenRun.{open_nodes}
use Rattle.hsr_commands.proofs.left.put_nodes.Given as goal

abbrev pub invariant-loop-node : goal.invariant-loop-node
invariant-loop-node g l = (l.text.items ≡ l.initial.text.items ++ open_nodes l.naming l.places l.world l.node) × (l.node ≤ l.node-end)
