use Rattle.std.proofs.Common.{arith, refl}
use Rattle.std.proofs.lemmas.Option.{slice_get_within}
use Rattle.hsr_health.proofs.Marking.{lates_more}
use Rattle.hsr_health.proofs.marks.with_lates.Goals as goal

pub loop-i-init : goal.loop-i-init
loop-i-init c = record { long = refl; set = λ k m late below marks_k lates_k. absurd (omega (arith, below)); rest = λ k past. refl }

pub loop-i-preserved : goal.loop-i-preserved
loop-i-preserved c = lates_more _ _ _ _ _ _ c.put_late.ensures.long c.put_late.ensures.marks c.loop-i.invariant

pub returns : goal.returns
returns c = record {
  long = c.loop-i.invariant.long;
  each = λ k m late marks_k lates_k. c.loop-i.invariant.set k m late (let below = slice_get_within c.args.lates.now k late lates_k in omega (arith, below)) marks_k lates_k;
}
