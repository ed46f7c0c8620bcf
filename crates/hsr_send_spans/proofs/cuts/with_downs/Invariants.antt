use Rattle.std.proofs.Common.{◌≡◌, ◌<◌, ℕ, length}
use Rattle.hsr_bitset.specs.Numbers.{has}
use Rattle.hsr_plays.specs.Spans.{is_down_in}
use Rattle.hsr_send_spans.proofs.cuts.with_downs.Given as goal

abbrev pub invariant-loop-order : goal.invariant-loop-order
invariant-loop-order l = (n : ℕ) → n < 512 → is_down_in n (has l.down n) l.rest ≡ is_down_in n (has l.fn.links n) l.fn.steps

abbrev pub decreases-loop-order : goal.decreases-loop-order
decreases-loop-order l = length l.rest
