use Rattle.std.proofs.Common.{subst}
use Rattle.hsr_run_laws.specs.Run.{Run}
use Rattle.hsr_topology.specs.Wired.{IsWired}
use Rattle.hsr_audit.proofs.Losing.{losses_found}
use Rattle.hsr_audit.proofs.cutoff.Reach.lossy.Goals as goal

pub returns : goal.returns
returns g c =
    let run : Run = c.args.self.now in
    let wired : IsWired run.places run.links = subst (λ (r : Run). IsWired r.places r.links) c.self.view_is c.topology.ensures.finished.wired in
    losses_found run c.args.send c.args.losses.now c.channels_of.result wired.few_links c.requires c.channels_of.ensures
