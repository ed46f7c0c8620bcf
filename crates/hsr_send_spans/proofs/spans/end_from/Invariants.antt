use Rattle.std.proofs.Common.{◌≡◌, ◌+◌, drop}
use Rattle.hsr_plays.specs.Spans.{end_from}
use Rattle.hsr_send_spans.proofs.spans.end_from.Given as goal

abbrev pub invariant-loop-i : goal.invariant-loop-i
invariant-loop-i l = end_from l.within l.sent (l.index + l.i) (drop l.i l.later) ≡ end_from l.within l.sent l.index l.later
