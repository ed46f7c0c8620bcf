use Rattle.std.proofs.Common.{◌≡◌, length, drop, map}
use Rattle.hsr_transcript.proofs.Orders.{OnTheWay}
use Rattle.hsr_transcript.specs.Items.{entry_items}
use Rattle.hsr_transcript.proofs.order.plan_of.Given as goal

abbrev pub invariant-loop-turn : goal.invariant-loop-turn
invariant-loop-turn l = record {
  way : OnTheWay l.main (map entry_items l.records) l.plan.items l.slots (drop l.turn-index l.main);
  paired : length l.slots ≡ length l.records;
}
