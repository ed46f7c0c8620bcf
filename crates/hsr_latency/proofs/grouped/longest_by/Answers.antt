use Rattle.std.proofs.Common.{◌≡◌, ◌∙◌, ap, arith, get_or, length, subst, take}
use Rattle.std.proofs.Math.Seq.{take-length}
use Rattle.hsr_deliveries.specs.Counted.{value_of}
use Rattle.hsr_latency.specs.Taken.{AreKept, Keeps}
use Rattle.hsr_latency.specs.declared.delay.Delay.{Delay}
use Rattle.hsr_latency.proofs.Grouping.{kept_more, longest_kept}
use Rattle.hsr_latency.proofs.grouped.longest_by.Goals as goal

pub loop-delay-preserved : goal.loop-delay-preserved
loop-delay-preserved c =
    let d : Delay = record { send = record { node = 0; place = 0 }; time = 0 } in
    let delay = get_or c.args.delays.now c.loop-delay.delay-index d in
    let keeps = subst (λ group. Keeps group delay c.loop-delay.longest.items c.keep.new.longest.items) c.group_in.ensures c.keep.ensures in
    record {
      many = c.keep.ensures.long ∙ c.loop-delay.invariant.many;
      kept = kept_more (value_of c.args.groups.now) c.args.delays.now c.loop-delay.delay-index d c.loop-delay.longest.items c.keep.new.longest.items c.loop-delay-test.true keeps
          c.loop-delay.invariant.kept;
    }

pub returns : goal.returns
returns c =
    let delays = c.args.delays.now in
    let end = c.loop-delay.auto.delay-index-end in
    let last = c.loop-delay-test.false in
    let i : c.loop-delay.delay-index ≡ length delays = omega (arith, end, last) in
    let all = ap (λ n. take n delays) i ∙ take-length delays in
    longest_kept (value_of c.args.groups.now) delays c.args.many c.loop-delay.longest.items c.loop-delay.invariant.many
    (subst (λ ds. AreKept (value_of c.args.groups.now) ds c.loop-delay.longest.items) all c.loop-delay.invariant.kept)
