-- A frame that is no shorter than a least tagged one isn't padded.
use Rattle.std.proofs.Common.{◌≡◌, ℕ, ◌≤◌, Bool, true, false, max, arith}
use Rattle.hsr_wire.specs.Octets.{least_octets}

pub not_padded : (tagged : Bool) (count : ℕ) → 66 ≤ count → max (least_octets tagged) count ≡ count
not_padded true count low = omega (arith, low)
not_padded false count low = omega (arith, low)
