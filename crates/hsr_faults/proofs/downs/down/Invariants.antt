use Rattle.std.proofs.Common.{◌≡◌, ◌<◌, ◌/◌, ℕ}
use Rattle.hsr_bitset.specs.Numbers.{has}
use Rattle.hsr_faults.proofs.downs.down.Given as goal

abbrev pub invariant-loop-link : goal.invariant-loop-link
invariant-loop-link l = (n : ℕ) → n / 2 < l.link → has l.set.words n ≡ has l.links (n / 2)
