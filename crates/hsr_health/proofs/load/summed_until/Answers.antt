use Rattle.std.proofs.Common.{arith, map}
use Rattle.hsr_health.specs.Loads.{weighed_at}
use Rattle.hsr_health.proofs.Loading.{near_one, own_at, sum_more}
use Rattle.hsr_health.proofs.load.summed_until.Goals as goal

pub loop-k-preserved : goal.loop-k-preserved
loop-k-preserved c =
    let packets = c.args.packets.now in
    let own = c.args.own.now in
    let all = map (weighed_at packets) own in
    let k = c.loop-k.k in
    let x = c.weighed_at-next.result in
    let here = own_at packets own k x c.loop-k-test.true c.weighed_at-next.ensures in
    record {
      near = near_one all c.args.before.end k c.args.at c.args.width x c.loop-k.invariant.near here (omega (arith, c.if-saturating_sub-width.false, c.saturating_sub.ensures));
      bits = λ few first. sum_more all k c.loop-k.bits c.saturating_add-bits.result x here few (c.loop-k.invariant.bits few first) (omega arith);
    }
