use Rattle.std.proofs.Common.{◌≡◌, map}
use Rattle.hsr_routes.specs.Started.{starting_in}
use Rattle.hsr_routes.proofs.starting.starting_in.Given as goal

abbrev pub invariant-loop-node : goal.invariant-loop-node
invariant-loop-node l = map (λ channels. channels.items) l.all.items ≡ starting_in l.node l.links
