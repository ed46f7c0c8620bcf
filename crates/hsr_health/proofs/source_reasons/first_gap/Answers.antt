use Rattle.std.proofs.Common.{arith, inl, inr}
use Rattle.std.proofs.lemmas.Option.{slice_get_within}
use Rattle.hsr_health.proofs.Gapping.{least_more}
use Rattle.hsr_health.proofs.source_reasons.first_gap.Goals as goal
use Rattle.hsr_health.proofs.source_reasons.first_gap.Goals.{then-is_before, else-is_before}

pub loop-k-preserved : goal.loop-k-preserved
loop-k-preserved c =
    let gaps = c.args.gaps.now in
    elim c.if-is_before.branch [
      | then-is_before w ↦ record {
        within = omega (arith, w.first-is);
        least = least_more gaps c.loop-k.k c.loop-k.first c.if-is_before.first c.is_before.result _ _ (omega arith) c.loop-k.invariant.within c.is_before.ensures (inl (w.if-is_before.true, w.first-is)) c.loop-k.invariant.least;
      }
      | else-is_before w ↦ record {
        within = omega (arith, w.first-is, c.loop-k.invariant.within);
        least = least_more gaps c.loop-k.k c.loop-k.first c.if-is_before.first c.is_before.result _ _ (omega arith) c.loop-k.invariant.within c.is_before.ensures (inr (w.if-is_before.false, w.first-is)) c.loop-k.invariant.least;
      }
    ]

pub returns-clause-first : goal.returns-clause-first
returns-clause-first c = λ gap here. record {
  there = (c.loop-k.first, here);
  least = λ k own at_k. c.loop-k.invariant.least k own gap (let below = slice_get_within c.args.gaps.now k own at_k in omega (arith, below)) at_k here;
}
