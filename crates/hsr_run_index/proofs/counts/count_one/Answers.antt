use Rattle.std.proofs.Common.{ap, ◌+◌}
use Rattle.hsr_run_index.proofs.Counting.{one_counted}
use Rattle.hsr_run_index.proofs.counts.count_one.Goals as goal

pub returns-in-Ok : goal.returns-in-Ok
returns-in-Ok c = one_counted c.args.counts.now c.insert.new.self c.args.copy.now c.key_of.result _ c.key_of.ensures.send c.key_of.ensures.octets (ap (λ n. n + 1) c.count_of-count.ensures) c.in-Ok.ensures.updates
