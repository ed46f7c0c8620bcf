use Rattle.std.proofs.Common.{rules, ◌≡◌, ◌*◌, ◌<◌, ◌≤◌, ◌∙◌, ℕ, length, ap}
use Rattle.hsr_run_laws.specs.Run.{Run}
use Rattle.hsr_network_laws.specs.Network.{Channel, stop_of}
use Rattle.hsr_topology.specs.Wired.{IsWired}
use Rattle.hsr_routes.specs.Numbered.{channel_at}
use Rattle.hsr_routes.proofs.Ending.{ends_are, ends_more, small_stops}
use Rattle.hsr_routes.proofs.search.Routes.ends.Goals as goal

pub loop-number-preserved : goal.loop-number-preserved
loop-number-preserved c =
    let run : Run = c.args.self.now in
    let j : ℕ = c.loop-number.number in
    let wired : IsWired run.places run.links = search rules in
    let low : j < 2 * length run.links = search rules in
    let is : c.stop-node.result.node ≡ (stop_of run (channel_at j)).node =
    ap (λ end. end.node) c.stop-node.ensures.value ∙ ap (λ (w : Channel). (stop_of run w).node) c.at.ensures in
    ends_more run c.args.found.now c.loop-number.nodes c.put_if.new.set j c.stop-node.result.node c.has.result low is c.has.ensures
    (small_stops run wired) c.put_if.ensures c.loop-number.invariant

pub returns : goal.returns
returns c =
    let run : Run = c.args.self.now in
    let wired : IsWired run.places run.links = search rules in
    let most : 2 * length run.links ≤ c.loop-number.number = search rules in
    ends_are run c.args.found.now c.loop-number.nodes c.loop-number.number most wired.few_places c.loop-number.invariant
