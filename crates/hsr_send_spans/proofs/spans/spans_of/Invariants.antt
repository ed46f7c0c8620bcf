use Rattle.std.proofs.Common.{◌≡◌, ◌≤◌, ◌+◌, ◌++◌, length}
use Rattle.hsr_plays.specs.Spans.{spans_from}
use Rattle.hsr_send_spans.proofs.spans.spans_of.Given as goal

abbrev pub invariant-loop-order : goal.invariant-loop-order
invariant-loop-order l = (l.list.items ++ spans_from l.within l.moment l.index l.rest ≡ spans_from l.within 0 0 l.fn.orders) × (l.index + length l.rest ≤ length l.fn.orders)

abbrev pub decreases-loop-order : goal.decreases-loop-order
decreases-loop-order l = length l.rest
