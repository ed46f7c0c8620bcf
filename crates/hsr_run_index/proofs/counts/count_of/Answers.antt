use Rattle.std.proofs.Common.{ap, ◌∙◌, unwrap_or}
use Rattle.hsr_run_index.proofs.Counting.{looked_up}
use Rattle.hsr_run_index.proofs.counts.count_of.Goals as goal

pub returns : goal.returns
returns c =
    c.unwrap_or.ensures
    ∙ (ap (λ o. unwrap_or o 0) (c.copied.ensures ∙ c.get.ensures.value) ∙ looked_up c.args.counts.now c.args.copy.now c.key_of.result c.key_of.ensures.send c.key_of.ensures.octets)
