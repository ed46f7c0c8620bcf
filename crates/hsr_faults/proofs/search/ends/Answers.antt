use Rattle.std.proofs.Common.{rules, ◌≡◌, ◌<◌, ◌≤◌, [], arith, length, slice_index_or, subst}
use Rattle.std.specs.Prelude.{◌↔◌, IsTrue}
use Rattle.std.proofs.lemmas.List.{get_or_default}
use Rattle.hsr_topology.specs.Wired.{IsWired}
use Rattle.hsr_faults.specs.Sets.{Meet}
use Rattle.hsr_routes.specs.Routes.{bare}
use Rattle.hsr_run_laws.specs.Run.{Run}
use Rattle.hsr_faults.specs.declared.channels.Channels.{Channels}
use Rattle.hsr_faults.proofs.Ending.{end_more, ends_are}
use Rattle.hsr_faults.proofs.search.ends.Goals as goal

pub loop-node-preserved : goal.loop-node-preserved
loop-node-preserved c =
    let net : Run = bare c.args.topology.now.places c.args.topology.now.links in
    let wired : IsWired net.places net.links = search rules in
    let below : c.loop-node.node < length c.args.into.now = search rules in
    let many = c.requires.many in
    let few = wired.few_places in
    let one : Channels = slice_index_or c.args.into.now c.loop-node.node c.args.found.now in
    let none : Channels = record { words = [] } in
    let same : slice_index_or c.args.into.now c.loop-node.node none ≡ one = get_or_default c.args.into.now c.loop-node.node none c.args.found.now below in
    end_more c.args.into.now c.args.found.now.words c.loop-node.node one c.meets.result c.loop-node.nodes.bits c.put.new.self.bits below (omega (arith, below, many, few))
    (λ d. get_or_default c.args.into.now c.loop-node.node d c.args.found.now below)
    (subst (λ (x : Channels). IsTrue c.meets.result ↔ Meet x.words c.args.found.now.words) same c.meets.ensures)
    c.put.ensures c.loop-node.invariant

pub returns : goal.returns
returns c =
    let net : Run = bare c.args.topology.now.places c.args.topology.now.links in
    let most : length c.args.into.now ≤ c.loop-node.node = search rules in
    ends_are net c.args.into.now c.args.found.now.words c.args.found.now c.loop-node.node c.loop-node.nodes.bits c.requires most c.loop-node.invariant
