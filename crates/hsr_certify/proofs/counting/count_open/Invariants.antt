use Rattle.std.proofs.Common.{◌≡◌, ◌≤◌, ◌+◌, count_by, drop}
use Rattle.hsr_plays.specs.Spans.{is_open_at}
use Rattle.hsr_certify.proofs.counting.count_open.Given as goal

abbrev pub invariant-loop-span : goal.invariant-loop-span
invariant-loop-span l = (l.count + count_by (is_open_at (l.index + 1)) (drop l.span-index l.spans) ≡ count_by (is_open_at (l.index + 1)) l.spans) × (l.count ≤ l.span-index)
