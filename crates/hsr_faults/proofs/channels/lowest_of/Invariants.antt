use Rattle.std.proofs.Common.{◌≡◌, ◌*◌, ◌<◌, ℕ, false}
use Rattle.hsr_bitset.specs.Numbers.{has}
use Rattle.hsr_faults.proofs.channels.lowest_of.Given as goal

abbrev pub invariant-loop-index : goal.invariant-loop-index
invariant-loop-index l = (n : ℕ) → n < 64 * l.index → has l.words n ≡ false
