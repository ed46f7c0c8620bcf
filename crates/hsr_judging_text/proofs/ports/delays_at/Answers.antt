use Rattle.std.proofs.Common.{[]}
use Rattle.hsr_judging_text.specs.Ports.{delay_of}
use Rattle.hsr_judging_text.proofs.Copies.{range_grown}
use Rattle.hsr_judging_text.proofs.ports.delays_at.Goals as goal

pub loop-k-preserved : goal.loop-k-preserved
loop-k-preserved c =
    range_grown (delay_of c.args.judgement.now c.args.end) c.loop-k.k [] c.loop-k.delays.items _ c.loop-k.invariant c.in_ok-put_delay_of.ensures
