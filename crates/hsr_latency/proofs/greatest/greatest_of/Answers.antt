use Rattle.std.proofs.Common.{◌≤◌, ◌∙◌, List, length, ap, sym, arith, drop_of_length-le}
use Rattle.std.specs.Prelude.{fold}
use Rattle.hsr_latency.specs.Kept.{greater}
use Rattle.hsr_latency.specs.declared.delay.Delay.{Delay}
use Rattle.hsr_latency.proofs.Walks.{greatest_is}
use Rattle.hsr_latency.proofs.greatest.greatest_of.Goals as goal

pub returns : goal.returns
returns c =
    let delays : List Delay = c.args.delays.now in
    let all : length delays ≤ c.loop-delay.delay-index = omega arith in
    sym (ap (λ (rest : List Delay). fold greater c.loop-delay.most rest) (drop_of_length-le delays all)) ∙ (c.loop-delay.invariant ∙ greatest_is delays)
