use Rattle.std.proofs.Common.{arith}
use Rattle.hsr_health.proofs.Addressing.{part_all, place_found}
use Rattle.hsr_health.proofs.sources.place_of.Goals as goal

pub loop-part-init : goal.loop-part-init
loop-part-init c = record { part = λ rise. part_all c.args.macs.now c.args.number _ (omega arith); order = omega arith; within = omega arith }

pub loop-part-preserved : goal.loop-part-preserved
loop-part-preserved c = record {
  part = λ rise. c.halved-part.ensures.part rise (c.loop-part.invariant.part rise);
  order = c.halved-part.ensures.order;
  within = omega (arith, c.halved-part.ensures.within, c.loop-part.invariant.within);
}

pub returns-clause-place : goal.returns-clause-place
returns-clause-place c = λ rise. place_found c.args.macs.now c.args.number c.loop-part.part.low c.loop-part.part.high (omega arith) (c.loop-part.invariant.part rise)
