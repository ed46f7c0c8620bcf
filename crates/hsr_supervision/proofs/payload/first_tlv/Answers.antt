use Rattle.std.proofs.Common.{rules, arith}
use Rattle.hsr_supervision.proofs.Tlvs.{stands_first}
use Rattle.hsr_supervision.proofs.payload.first_tlv.Goals as goal

pub returns-clause-tlv : goal.returns-clause-tlv
returns-clause-tlv c =
    stands_first c.args.octets.now c.split_at.result.0.now c.split_at.result.1.now (search (rules, arith)) (search (rules, arith)) (search (rules, arith)) (search (rules, arith)) (search (rules, arith)) (search (rules, arith))
