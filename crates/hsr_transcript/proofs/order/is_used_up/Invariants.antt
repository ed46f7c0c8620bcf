use Rattle.std.proofs.Common.{◌≡◌, ◌<◌, ℕ, [], map}
use Rattle.hsr_transcript.specs.Order.{left_in}
use Rattle.hsr_transcript.specs.Items.{entry_items}
use Rattle.hsr_transcript.proofs.order.is_used_up.Given as goal

abbrev pub invariant-loop-k : goal.invariant-loop-k
invariant-loop-k l = (k : ℕ) → k < l.k → left_in (map entry_items l.records) l.passed k ≡ []
