use Rattle.std.proofs.Common.{◌≡◌, length}
use Rattle.hsr_supervision.specs.Payload.{redbox_among, result_map, tlvs_past}
use Rattle.hsr_supervision.proofs.Tlvs.{found_or}
use Rattle.hsr_supervision.proofs.payload.redbox_in.Given as goal

-- what is left answers for all
abbrev pub invariant-loop-tlv : goal.invariant-loop-tlv
invariant-loop-tlv l = result_map (found_or l.found) (tlvs_past 0 l.left) ≡ result_map redbox_among (tlvs_past 0 l.octets)

abbrev pub decreases-loop-tlv : goal.decreases-loop-tlv
decreases-loop-tlv l = length l.left
