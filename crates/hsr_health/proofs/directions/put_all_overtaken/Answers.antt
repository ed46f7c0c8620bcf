use Rattle.std.proofs.Common.{◌∙◌, arith, subst}
use Rattle.std.proofs.lemmas.List.{take_all}
use Rattle.std.proofs.lemmas.Option.{slice_get-get_or}
use Rattle.hsr_health.specs.Counted.{ArePassed}
use Rattle.hsr_health.proofs.Directing.{passed_step}
use Rattle.hsr_health.proofs.directions.put_all_overtaken.Goals as goal

pub loop-i-preserved : goal.loop-i-preserved
loop-i-preserved c =
    let overtaken = c.args.overtaken.now in
    let i = c.loop-i.i in
    record {
      long = c.put_overtaken.ensures.long ∙ c.loop-i.invariant.long;
      all = λ none.
          passed_step c.args.copies.now overtaken i _ c.args.all.now.items c.loop-i.all.items _ (slice_get-get_or overtaken i _ (omega arith)) (omega arith) c.put_overtaken.ensures.all (c.loop-i.invariant.all none);
    }

pub returns-clause-all : goal.returns-clause-all
returns-clause-all c = λ none.
    subst (λ l. ArePassed c.args.copies.now l c.args.all.now.items c.loop-i.all.items) (take_all c.loop-i.i c.args.overtaken.now (omega arith)) (c.loop-i.invariant.all none)
