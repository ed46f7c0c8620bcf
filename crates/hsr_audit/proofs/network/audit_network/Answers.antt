use Rattle.std.proofs.lemmas.Result.{IfErr-weaker}
use Rattle.hsr_run_laws.specs.Run.{Run}
use Rattle.hsr_audit.specs.Danhs.{HasPremises}
use Rattle.hsr_audit.specs.Doubts.{IsFirstFault, IsNetworkPremised, IsRefused, of_network}
use Rattle.hsr_audit.specs.Sends.{HasSend}
use Rattle.hsr_audit.proofs.Promising.{fault_refuses, no_ring}
use Rattle.hsr_audit.proofs.network.audit_network.Goals as goal

pub returns-clause-refused : goal.returns-clause-refused
returns-clause-refused g c =
    let run : Run = c.args.closed.now.run in
    IfErr-weaker c.certify.result (IsFirstFault of_network run) (IsRefused (IsNetworkPremised run)) (fault_refuses run) c.certify.ensures.fault

pub returns-clause-no_ring : goal.returns-clause-no_ring
returns-clause-no_ring g c =
    let run : Run = c.args.closed.now.run in
    IfErr-weaker c.certify.result (IsFirstFault of_network run) (IsRefused (HasPremises run × HasSend run))
    (λ fault first. no_ring run fault c.topology.ensures.finished.closed c.ring_is_crossed.ensures first) c.certify.ensures.fault
