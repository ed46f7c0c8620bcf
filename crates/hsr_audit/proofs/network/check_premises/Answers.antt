use Rattle.std.proofs.Common.{rules, length}
use Rattle.hsr_run_laws.specs.Run.{Run}
use Rattle.hsr_audit.specs.Doubts.{IsSound}
use Rattle.hsr_audit.specs.Placed.{HoldsIn}
use Rattle.hsr_audit.specs.Sends.{AreKnown, AreServed, IsCoveredAt}
use Rattle.hsr_audit.proofs.Promising.{all_covered}
use Rattle.hsr_audit.proofs.network.check_premises.Goals as goal

pub returns-in-None-clause-premised : goal.returns-in-None-clause-premised
returns-in-None-clause-premised g c =
    let run : Run = c.args.closed.now.run in
    let sound : IsSound run = search rules in
    let served : AreServed run = search rules in
    let known : AreKnown run = search rules in
    let all : HoldsIn run (IsCoveredAt run) (length run.places) = search rules in
    record { sound = sound; served = served; known = known; covered = all_covered run all }
