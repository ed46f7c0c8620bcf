use Rattle.std.proofs.Common.{rules, ◌≡◌, ◌<◌, ◌≤◌, ◌∙◌, List, length, slice_index_or, ap, sym, subst, arith, true}
use Rattle.hsr_run_laws.specs.Run.{Run}
use Rattle.hsr_network_laws.specs.Network.{Channel}
use Rattle.hsr_routes.specs.Routes.{heading, sender_at}
use Rattle.hsr_routes.specs.Numbered.{is_in}
use Rattle.hsr_routes.specs.Spread.{IsPut, next_node}
use Rattle.hsr_routes.specs.Started.{channels_from}
use Rattle.hsr_routes.proofs.Spreading.{spread_all, spread_more}
use Rattle.hsr_routes.proofs.Started.{start_there}
use Rattle.hsr_routes.proofs.search.Routes.spread.Goals as goal

pub takes-is_one-requires : goal.takes-is_one-requires
takes-is_one-requires c =
    let run : Run = c.args.self.now in
    let node = next_node run (sender_at c.args.frame.now.sender) c.args.from.now in
    let is : c.starting-channel-items.result.now ≡ channels_from node 0 run.links = search rules in
    let below : c.loop-channel.channel-index < length (channels_from node 0 run.links) = search rules in
    let same : c.channel-item.result ≡ slice_index_or (channels_from node 0 run.links) c.loop-channel.channel-index c.channel-item.result = c.channel-item.is ∙ ap (λ channels. slice_index_or channels c.loop-channel.channel-index c.channel-item.result) is in
    let there = start_there run node c.loop-channel.channel-index c.channel-item.result below in
    record { from = c.requires.from; channel = subst (λ (w : Channel). w.link < length run.links) (sym same) there }

pub number-requires : goal.number-requires
number-requires c =
    let run : Run = c.args.self.now in
    let node = next_node run (sender_at c.args.frame.now.sender) c.args.from.now in
    let is : c.starting-channel-items.result.now ≡ channels_from node 0 run.links = search rules in
    let below : c.loop-channel.channel-index < length (channels_from node 0 run.links) = search rules in
    let same : c.channel-item.result ≡ slice_index_or (channels_from node 0 run.links) c.loop-channel.channel-index c.channel-item.result = c.channel-item.is ∙ ap (λ channels. slice_index_or channels c.loop-channel.channel-index c.channel-item.result) is in
    let there = start_there run node c.loop-channel.channel-index c.channel-item.result below in
    subst (λ (w : Channel). w.link < length run.links) (sym same) there

pub loop-channel-preserved : goal.loop-channel-preserved
loop-channel-preserved c =
    let run : Run = c.args.self.now in
    let node = next_node run (sender_at c.args.frame.now.sender) c.args.from.now in
    let channels = channels_from node 0 run.links in
    let channel : Channel = c.channel-item.result in
    let is : c.starting-channel-items.result.now ≡ channels_from node 0 run.links = search rules in
    let below : c.loop-channel.channel-index < length (channels_from node 0 run.links) = search rules in
    let same : channel ≡ slice_index_or channels c.loop-channel.channel-index channel = c.channel-item.is ∙ ap (λ xs. slice_index_or xs c.loop-channel.channel-index channel) is in
    let there = start_there run node c.loop-channel.channel-index channel below in
    let inside : channel.link < length run.links = subst (λ (w : Channel). w.link < length run.links) (sym same) there in
    let put : IsPut c.takes-is_one.result c.number.result c.loop-channel.front.found c.loop-channel.front.waiting c.put.new.self.found c.put.new.self.waiting = c.put.ensures in
    spread_more run (sender_at c.args.frame.now.sender) (heading c.args.frame.now.dst c.args.frame.now.kind) (is_in c.args.avoid.now) c.args.from.now channels c.loop-channel.channel-index channel c.takes-is_one.result
    c.args.front.now.found c.args.front.now.waiting c.loop-channel.front.found c.loop-channel.front.waiting c.put.new.self.found c.put.new.self.waiting
    c.starting-channel-items.ensures.few below (sym same) inside
    c.takes-is_one.ensures.0 c.takes-is_one.ensures.1
    (subst (λ n. IsPut c.takes-is_one.result n c.loop-channel.front.found c.loop-channel.front.waiting c.put.new.self.found c.put.new.self.waiting) c.number.ensures.value put)
    c.loop-channel.invariant

pub returns-clause-spread : goal.returns-clause-spread
returns-clause-spread c =
    let run : Run = c.args.self.now in
    let node = next_node run (sender_at c.args.frame.now.sender) c.args.from.now in
    let is : c.starting-channel-items.result.now ≡ channels_from node 0 run.links = search rules in
    let all : length (channels_from node 0 run.links) ≤ c.loop-channel.channel-index = search rules in
    spread_all run (sender_at c.args.frame.now.sender) (heading c.args.frame.now.dst c.args.frame.now.kind) (is_in c.args.avoid.now) c.args.from.now (channels_from node 0 run.links) c.loop-channel.channel-index
    c.args.front.now.found c.args.front.now.waiting c.loop-channel.front.found c.loop-channel.front.waiting Rattle.std.proofs.Common.refl all c.loop-channel.invariant
