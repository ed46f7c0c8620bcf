use Rattle.std.proofs.Common.{Option, Some, cond, get_or, ap, sym, ◌∙◌}
use Rattle.hsr_timeline.specs.declared.origin.Spot.{Spot}
use Rattle.hsr_timeline.specs.Causes.{is_spot}
use Rattle.hsr_timeline.proofs.Pairing.{cause_more}
use Rattle.hsr_timeline.proofs.pairs.causes_of.Goals as goal

pub loop-i-preserved : goal.loop-i-preserved
loop-i-preserved c = λ spot.
    let d : Spot × Spot = (record { node = 0; place = 0 }, record { node = 0; place = 0 }) in
    let pair : Spot × Spot = get_or c.args.pairs.now c.loop-i.i d in
    c.in_ok-keep.ensures spot
    ∙ (ap (λ (o : Option Spot). cond (is_spot pair.0 spot) (Some pair.1) o) (c.loop-i.invariant spot) ∙ sym (cause_more c.args.pairs.now c.loop-i.i d spot c.loop-i-test.true))
