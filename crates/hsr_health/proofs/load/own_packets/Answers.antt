use Rattle.std.proofs.Common.{◌∙◌, ap, arith, refl}
use Rattle.std.proofs.lemmas.List.{take_all}
use Rattle.std.proofs.lemmas.Option.{slice_get_read}
use Rattle.hsr_health.specs.Loads.{own_packets}
use Rattle.hsr_health.proofs.Loading.{own_put}
use Rattle.hsr_health.proofs.load.own_packets.Goals as goal

pub loop-k-preserved : goal.loop-k-preserved
loop-k-preserved c =
    let packets = c.args.packets.now in
    let k = c.loop-k.k in
    let p = c.index-packets-k.result in
    own_put c.args.interface packets k p c.loop-k.own.items _ (slice_get_read packets _ k p refl (omega arith) c.index-packets-k.is) c.loop-k.invariant c.in_ok-put_own.ensures

pub returns : goal.returns
returns c = c.loop-k.invariant ∙ ap (own_packets c.args.interface) (take_all c.loop-k.k c.args.packets.now (omega arith))
