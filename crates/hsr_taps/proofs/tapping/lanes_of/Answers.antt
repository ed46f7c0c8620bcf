use Rattle.std.proofs.Common.{◌++◌, ◌∙◌, [], ◌∷◌, arith, subst, sym, take}
use Rattle.std.proofs.lemmas.List.{length-take, take_all, take_more}
use Rattle.hsr_taps.specs.Came.{AreLaneCounts}
use Rattle.hsr_taps.proofs.tapping.lanes_of.Goals as goal

pub loop-caught-preserved : goal.loop-caught-preserved
loop-caught-preserved c =
    let copies = c.args.copies.now in
    let i = c.loop-caught.caught-index in
    let p = c.caught-item.result in
    record {
      long = c.count_copy.ensures.long ∙ c.loop-caught.invariant.long;
      counts = subst (λ l. AreLaneCounts c.args.lane l c.count_copy.new.counts.items) (sym (take_more copies i p (omega arith)))
          (subst (λ x. AreLaneCounts c.args.lane (take i copies ++ x ∷ []) c.count_copy.new.counts.items) c.caught-item.is
          (c.count_copy.ensures.counts (take i copies) (omega (arith, length-take i copies)) c.loop-caught.invariant.counts));
    }

pub returns-clause-counts : goal.returns-clause-counts
returns-clause-counts c = subst (λ l. AreLaneCounts c.args.lane l c.loop-caught.counts.items) (take_all c.loop-caught.caught-index c.args.copies.now (omega arith)) c.loop-caught.invariant.counts
