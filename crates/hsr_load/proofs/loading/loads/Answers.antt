use Rattle.std.proofs.Common.{◌+◌, ◌<◌, List, ℕ, length, take, sym, subst, rules}
use Rattle.hsr_load.specs.Carried.{Channel}
use Rattle.hsr_load.specs.Loads.{AreLoads, IsLoadIf}
use Rattle.hsr_load.specs.declared.load.ChannelLoad.{ChannelLoad}
use Rattle.hsr_load.proofs.Listing.{loads_more}
use Rattle.hsr_load.proofs.loading.loads.Goals as goal

pub loop-channel-preserved : goal.loop-channel-preserved
loop-channel-preserved c =
    let cs : List Channel = c.args.channels.now in
    let i : ℕ = c.loop-channel.channel-index in
    let d : Channel = c.channel-item.result in
    let below : i < length cs = search rules in
    let is = subst (λ (x : Channel). IsLoadIf c.args.time x c.in_ok-load.load) c.channel-item.is c.in_ok-load.ensures in
    subst (λ (ls : List ChannelLoad). AreLoads c.args.time (take (i + 1) cs) ls) (sym c.in_ok-push_some.ensures)
    (loads_more c.args.time cs i d c.loop-channel.loads.items c.in_ok-load.load below c.loop-channel.invariant is)
