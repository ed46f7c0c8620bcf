use Rattle.std.proofs.Common.{◌∙◌, sym, arith, get_or}
use Rattle.std.proofs.lemmas.Bool.{false≢true, true_from_ne_false}
use Rattle.hsr_run_index.proofs.Often.{by_each, each_often}
use Rattle.hsr_run_index.proofs.AsOften.{long_from}
use Rattle.hsr_run_index.proofs.counts.is_as_often.Goals as goal

pub returns-then-xs-ys : goal.returns-then-xs-ys
returns-then-xs-ys c = ((λ h. absurd (false≢true h)), λ h. let long = long_from c.args.xs.now c.args.ys.now h in absurd (omega (arith, long, c.if-xs-ys.true)))

pub returns : goal.returns
returns c = (
  λ h. by_each c.args.xs.now c.args.ys.now c.if-xs-ys.false (λ i d below.
      sym (c.in_ok-of_xs.ensures (get_or c.args.xs.now i d)) ∙ (c.are_alike.ensures.alike h i d below ∙ c.in_ok-of_ys.ensures (get_or c.args.xs.now i d))),
  λ h. true_from_ne_false c.are_alike.result (λ no. c.are_alike.ensures.other no (λ copy.
      c.in_ok-of_xs.ensures copy ∙ (each_often c.args.xs.now c.args.ys.now h copy ∙ sym (c.in_ok-of_ys.ensures copy)))),
)
