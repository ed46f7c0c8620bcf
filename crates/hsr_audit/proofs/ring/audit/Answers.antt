use Rattle.std.proofs.lemmas.Result.{IfErr-weaker}
use Rattle.hsr_audit.specs.Danhs.{HasPremises}
use Rattle.hsr_audit.specs.Doubts.{IsFirstFault, IsRefused, of_ring}
use Rattle.hsr_run_laws.specs.Run.{Run}
use Rattle.hsr_audit.proofs.Clearing.{fault_refuses}
use Rattle.hsr_audit.proofs.ring.audit.Goals as goal

pub returns-clause-refused : goal.returns-clause-refused
returns-clause-refused g c =
    let run : Run = c.args.closed.now.run in
    IfErr-weaker c.certify.result (IsFirstFault of_ring run) (IsRefused (HasPremises run)) (fault_refuses run) c.certify.ensures.fault
