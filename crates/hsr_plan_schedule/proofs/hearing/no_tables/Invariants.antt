use Rattle.std.proofs.Common.{◌≡◌, map, take}
use Rattle.hsr_tables.specs.Proxies.{no_proxies}
use Rattle.hsr_plan_schedule.proofs.hearing.no_tables.Given as goal

abbrev pub invariant-loop-node : goal.invariant-loop-node
invariant-loop-node l = l.tables.items ≡ map (λ node. no_proxies) (take l._node-index l.nodes)
