use Rattle.std.proofs.Common.{rules, ◌≡◌, ◌∙◌, ap, ◌==◌}
use Rattle.hsr_network_laws.specs.Network.{Channel, stop_of}
use Rattle.hsr_routes.specs.Routes.{bare}
use Rattle.hsr_run_laws.specs.Run.{Run}
use Rattle.hsr_routes.specs.Numbered.{channel_at}
use Rattle.hsr_faults.proofs.Ending.{stops_more}
use Rattle.hsr_faults.proofs.search.stopping.Goals as goal

pub loop-number-preserved : goal.loop-number-preserved
loop-number-preserved c =
    let net : Run = bare c.args.topology.now.places c.args.topology.now.links in
    let at : c.stop.result.node ≡ (stop_of net (channel_at c.loop-number.number)).node =
    ap (λ end. end.node) c.stop.ensures.value ∙ ap (λ (w : Channel). (stop_of net w).node) c.at.ensures in
    stops_more net c.args.node c.loop-number.number (c.stop.result.node == c.args.node) c.loop-number.set.words c.put.new.self.words c.stop.result.node at Rattle.std.proofs.Common.refl c.put.ensures c.loop-number.invariant
