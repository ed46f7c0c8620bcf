use Rattle.std.proofs.Common.{◌∙◌, ap, arith, map, min}
use Rattle.std.proofs.lemmas.List.{take_all}
use Rattle.hsr_sightings.proofs.Times.{times_more}
use Rattle.hsr_sightings.proofs.again.times_of.Goals as goal

pub loop-i-preserved : goal.loop-i-preserved
loop-i-preserved c = times_more c.args.counts.now c.loop-i.times.items c.loop-i.i 0 _ _ (omega arith) c.loop-i.invariant c.min.ensures c.in_ok-push.ensures.items

pub returns : goal.returns
returns c = c.loop-i.invariant ∙ ap (map (λ n. min n 255)) (take_all c.loop-i.i c.args.counts.now (omega arith))
