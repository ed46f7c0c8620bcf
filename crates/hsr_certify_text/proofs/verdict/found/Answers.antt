use Rattle.std.proofs.Common.{subst}
use Rattle.hsr_certify.specs.Doubts.{IsFirstFault}
use Rattle.hsr_certify.specs.Verdict.{setup_of}
use Rattle.hsr_certify.specs.declared.doubt.CertifyFault.TheVariants.{Doubt}
use Rattle.hsr_certify_text.proofs.verdict.found.Goals as goal

pub returns-in-Err-Doubt : goal.returns-in-Err-Doubt
returns-in-Err-Doubt c =
    let entries = c.capacity.result in
    let told = subst (IsFirstFault (setup_of c.args.topology.now c.args.room entries c.args.orders.now c.args.within)) c.in-Err-Doubt.field-0-is c.in-Err-Doubt.ensures.first in
    subst (λ n. IsFirstFault (setup_of c.args.topology.now c.args.room n c.args.orders.now c.args.within) (Doubt c.in-Err-Doubt.doubt)) c.capacity.ensures told
