use Rattle.std.proofs.Common.{◌≡◌, ◌<◌, ℕ, length}
use Rattle.hsr_bitset.specs.Numbers.{has}
use Rattle.hsr_plays.specs.Spans.{cut_behind}
use Rattle.hsr_send_spans.proofs.cuts.with_cuts.Given as goal

abbrev pub invariant-loop-order : goal.invariant-loop-order
invariant-loop-order l = (n : ℕ) → n < 512 → cut_behind n (has l.cut n) l.rest ≡ cut_behind n (has l.fn.links n) l.fn.steps

abbrev pub decreases-loop-order : goal.decreases-loop-order
decreases-loop-order l = length l.rest
