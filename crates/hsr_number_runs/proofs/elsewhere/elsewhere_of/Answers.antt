use Rattle.std.proofs.Common.{◌∙◌, ◌+◌, arith, ap, map, reverse, subst, sym, take}
use Rattle.std.proofs.lemmas.List.{take_all}
use Rattle.hsr_number_runs.specs.Nearest.{AreTold}
use Rattle.hsr_number_runs.proofs.Running.{past_more}
use Rattle.hsr_number_runs.proofs.Standing.{counts_told}
use Rattle.hsr_number_runs.proofs.elsewhere.elsewhere_of.Goals as goal

pub loop-i-preserved : goal.loop-i-preserved
loop-i-preserved c =
    let i = c.loop-i.i in
    let in_runs = c.args.in_runs.now in
    record {
      long = c.put_number.ensures.long ∙ c.loop-i.invariant.long;
      told = subst (λ b. AreTold b (i + 1) c.put_number.new.told.items) (sym (past_more in_runs i _ (omega arith))) (c.put_number.ensures.told (reverse (take i in_runs)) c.loop-i.invariant.told);
    }

pub returns-clause-each : goal.returns-clause-each
returns-clause-each c = λ sender below.
    counts_told c.loop-i.told.items (reverse c.args.in_runs.now) c.loop-i.i c.in_ok-counts.counts.items (c.in_ok-counts.ensures ∙ ap (map (λ t. t.count)) c.as_slice.ensures.value)
    (subst (λ l. AreTold (reverse l) c.loop-i.i c.loop-i.told.items) (take_all c.loop-i.i c.args.in_runs.now (omega arith)) c.loop-i.invariant.told) sender (omega (arith, below, c.loop-i.invariant.long))
