use Rattle.std.proofs.Common.{rules}
use Rattle.std.proofs.lemmas.List.Sorted.{answers_always}
use Rattle.hsr_number_runs.specs.declared.run.InRun.{InRun}
use Rattle.hsr_health.proofs.ledger.by_run.Goals as goal

pub returns : goal.returns
returns c = record {
  same = c.sort_unstable_by_key.ensures.permutation;
  sorted = c.sort_unstable_by_key.ensures.sorted (λ (p : InRun). (p.run, p.extended)) (answers_always _ _ _ (λ f a r g h. search rules));
}
