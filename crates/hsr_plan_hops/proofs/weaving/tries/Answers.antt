use Rattle.std.proofs.Common.{arith, ap, refl}
use Rattle.hsr_plan_schedule.specs.Meaning.{Meaning}
use Rattle.hsr_plan_hops.proofs.Begun.{endless_at, goes_on_at}
use Rattle.hsr_plan_hops.proofs.weaving.tries.Goals as goal

pub returns-then-len-gt-ORDER_LIMIT-clause-err : goal.returns-then-len-gt-ORDER_LIMIT-clause-err
returns-then-len-gt-ORDER_LIMIT-clause-err g c = (
  refl,
  endless_at g.row.C c.args.transfer c.args.told.now c.args.weaving.now c.told.inside.topology.links c.weaving.inside.stage c.tries.new.self c.weaving.inside.orders.items c.note.new.orders.items
      c.args.step.now c.args.more.now c.in_ok-fault.field-0 c.weaving.view_is (ap (λ (m : Meaning). m.topology.links) c.told.view_is) c.in_default.is c.requires.begun c.requires.next
      c.in_ok-fault.ensures c.in_ok-note.ensures (omega arith),
)

pub returns-clause-ok : goal.returns-clause-ok
returns-clause-ok g c =
    goes_on_at g.row.C c.args.transfer c.args.told.now c.args.weaving.now c.told.inside.topology.links c.weaving.inside.stage c.tries.new.self c.weaving.inside.orders.items c.note.new.orders.items
    c.args.step.now c.args.more.now c.in_ok-fault.field-0 c.weaving.view_is (ap (λ (m : Meaning). m.topology.links) c.told.view_is) c.in_default.is c.requires.begun c.requires.next
    c.in_ok-fault.ensures c.in_ok-note.ensures (omega arith)
