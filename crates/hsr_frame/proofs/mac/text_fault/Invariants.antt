use Rattle.std.proofs.Common.{◌≡◌, ℕ, ◌<◌, None, slice_index, drop}
use Rattle.hsr_frame.specs.Address.{place_fault, fault_from}
use Rattle.hsr_frame.proofs.mac.text_fault.Given as goal

-- the octets so far are right
abbrev pub invariant-loop-i : goal.invariant-loop-i
invariant-loop-i l = record {
  right : (k : ℕ) → k < l.i → place_fault k (slice_index l.text k) ≡ None;
  first : fault_from l.i (drop l.i l.text) ≡ fault_from 0 l.text;
}
