use Rattle.std.proofs.Common.{◌≡◌, ◌++◌, drop}
use Rattle.hsr_routes.specs.Started.{channels_from}
use Rattle.hsr_routes.proofs.starting.channels_from.Given as goal

-- what is left answers for all
abbrev pub invariant-loop-number : goal.invariant-loop-number
invariant-loop-number l = l.channels.items ++ channels_from l.node l.number (drop l.number l.links) ≡ channels_from l.node 0 l.links
