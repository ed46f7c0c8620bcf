use Rattle.std.proofs.Common.{◌≡◌, ◌<◌, ◌*◌, ◌/◌, ℕ}
use Rattle.hsr_bitset.specs.Numbers.{has}
use Rattle.hsr_faults.specs.Fault.{is_link_off}
use Rattle.hsr_faults.proofs.outage.shut_channels.Given as goal

abbrev pub invariant-loop-link : goal.invariant-loop-link
invariant-loop-link l = (n : ℕ) → n < 2 * l.link → has l.set.words n ≡ is_link_off l.links l.fault (n / 2)
