use Rattle.std.proofs.Common.{◌≡◌, ◌≤◌, ◌+◌, count_by, drop}
use Rattle.hsr_plays.specs.Spans.{meets}
use Rattle.hsr_certify.proofs.counting.count_meeting.Given as goal

abbrev pub invariant-loop-other : goal.invariant-loop-other
invariant-loop-other l = (l.count + count_by (meets l.span) (drop l.other-index l.spans) ≡ count_by (meets l.span) l.spans) × (l.count ≤ l.other-index)
