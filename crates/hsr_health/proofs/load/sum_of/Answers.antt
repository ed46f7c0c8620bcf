use Rattle.std.proofs.Common.{◌∙◌, ap, arith, map}
use Rattle.std.proofs.lemmas.List.{length-map, take_all}
use Rattle.hsr_health.specs.Loads.{load_of, weighed_at}
use Rattle.hsr_health.proofs.Loading.{own_at, sum_more}
use Rattle.hsr_health.proofs.load.sum_of.Goals as goal

pub loop-i-preserved : goal.loop-i-preserved
loop-i-preserved c = λ few.
    let packets = c.args.packets.now in
    let own = c.args.own.now in
    let i = c.loop-i.i in
    let x = c.weighed_at.result in
    sum_more (map (weighed_at packets) own) i c.loop-i.sum c.saturating_add-sum.result x (own_at packets own i x c.loop-i-test.true c.weighed_at.ensures) few (c.loop-i.invariant few) (omega arith)

pub returns : goal.returns
returns c = λ few.
    let own = c.args.own.now in
    let all = map (weighed_at c.args.packets.now) own in
    c.loop-i.invariant few ∙ ap load_of (take_all c.loop-i.i all (let long = length-map own (weighed_at c.args.packets.now) in omega (arith, long)))
