use Rattle.std.proofs.Common.{◌≡◌, ◌+◌, ◌-◌, ◌*◌, ◌≤◌, length}
use Rattle.hsr_plan_hops.specs.Beginning.{HasPutBelow}
use Rattle.hsr_plan_hops.specs.Refusing.{order_limit}
use Rattle.hsr_plan_hops.specs.Weaving.{IsBegun}
use Rattle.hsr_plan_hops.specs.declared.turns.Due.TheVariants.{Puts}
use Rattle.hsr_plan_hops.proofs.weaving.puts_all.Given as goal

abbrev pub invariant-loop-port : goal.invariant-loop-port
invariant-loop-port g l = record {
  begun : IsBegun g.row.C l.transfer l.told l.weaving;
  due : l.weaving.stage.due ≡ Puts l.node;
  lower : HasPutBelow g.row.C l.weaving.stage.world l.node l.port;
  told_on : l.weaving.stage.told ≡ l.fn.weaving.stage.told;
  longer : length l.fn.weaving.orders ≤ length l.weaving.orders;
  within : l.port ≤ 4;
}

abbrev pub decreases-loop-port : goal.decreases-loop-port
decreases-loop-port g l = (order_limit - length l.weaving.orders) * 8 + (4 - l.port)
