use Rattle.std.proofs.Common.{rules, length}
use Rattle.hsr_run_laws.specs.Run.{Run}
use Rattle.hsr_audit.specs.Doubts.{IsSo}
use Rattle.hsr_audit.specs.Placed.{HoldsIn}
use Rattle.hsr_audit.specs.Sends.{IsServedAt}
use Rattle.hsr_audit.specs.declared.doubt.Doubt.TheVariants.{CutOff}
use Rattle.hsr_audit.proofs.Promising.{all_served, cut_is}
use Rattle.hsr_audit.proofs.network.check_served.Goals as goal

pub returns-clause-served : goal.returns-clause-served
returns-clause-served g c =
    let run : Run = c.args.closed.now.run in
    let all : HoldsIn run (IsServedAt run) (length run.places) = search rules in
    all_served run all

pub returns-in-Some-clause-fault : goal.returns-in-Some-clause-fault
returns-in-Some-clause-fault g c =
    let run : Run = c.args.closed.now.run in
    let cut = c.in-Some.cut in
    let so : IsSo run (CutOff cut.node cut.place cut.receiver) = search rules in
    cut_is run cut.node cut.place cut.receiver c.requires so
