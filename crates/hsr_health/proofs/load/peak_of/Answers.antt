use Rattle.std.proofs.Common.{arith, map}
use Rattle.std.proofs.lemmas.List.{at_drop_all, length-map}
use Rattle.hsr_health.specs.Loads.{peak_of, weighed_at}
use Rattle.hsr_health.proofs.Loading.{end_behind, near_more, own_at, peak_step, sum_more}
use Rattle.hsr_health.proofs.load.peak_of.Goals as goal

pub loop-i-preserved : goal.loop-i-preserved
loop-i-preserved c =
    let packets = c.args.packets.now in
    let own = c.args.own.now in
    let all = map (weighed_at packets) own in
    let width = c.args.width in
    let i = c.loop-i.i in
    let old = c.loop-i.summed.end in
    let found = c.summed_until-summed.ensures.end in
    let end = c.summed_until-summed.result.end in
    let v = c.weighed_at-next.result in
    let here = own_at packets own i v c.loop-i-test.true c.weighed_at-next.ensures in
    record {
      behind = end_behind all i old end width v here c.loop-i.invariant.behind found c.requires.width;
      within = omega (arith, found.within, length-map own (weighed_at packets));
      near = λ j k u w le below at_j at_k. near_more all i old end width v c.requires.time here found c.loop-i.invariant.near j k u w (omega (arith, le)) below at_j at_k;
      summed = λ few. c.summed_until-summed.ensures.bits few (c.loop-i.invariant.summed few);
      before = λ few. sum_more all i c.loop-i.before c.saturating_add-before.result v here few (c.loop-i.invariant.before few) (omega arith);
      peak = λ few. peak_step all i old end width c.loop-i.peak _ _ _ v c.requires.time c.requires.width here c.loop-i.invariant.behind found c.loop-i.invariant.near
          (c.summed_until-summed.ensures.bits few (c.loop-i.invariant.summed few)) (c.loop-i.invariant.before few) (omega arith) (c.loop-i.invariant.peak few);
    }

pub returns : goal.returns
returns c = λ few.
    let own = c.args.own.now in
    let all = map (weighed_at c.args.packets.now) own in
    let last = c.loop-i.invariant.peak few in
    let long = length-map own (weighed_at c.args.packets.now) in
    let none = at_drop_all (peak_of c.args.width) all c.loop-i.i (omega (arith, long)) in
    omega (arith, last, none)
