use Rattle.std.proofs.Common.{rules, length}
use Rattle.hsr_run_laws.specs.Run.{Run}
use Rattle.hsr_audit.specs.Sends.{IsNoSendAt}
use Rattle.hsr_audit.specs.Placed.{HoldsIn}
use Rattle.hsr_audit.proofs.Promising.{none_sent}
use Rattle.hsr_audit.proofs.sends.has_send.Goals as goal

pub returns : goal.returns
returns g c =
    let run : Run = c.args.closed.now.run in
    let all : HoldsIn run (IsNoSendAt run) (length run.places) = search rules in
    none_sent run all
