use Rattle.std.proofs.Common.{rules, ◌≤◌, length, arith}
use Rattle.hsr_run_laws.specs.Run.{Run}
use Rattle.hsr_audit.proofs.Spending.{all_in_time}
use Rattle.hsr_audit.proofs.late.first_late.Goals as goal

pub returns : goal.returns
returns g c =
    let run : Run = c.args.closed.now.run in
    let all : length run.places ≤ c.loop-node.node = search rules in
    all_in_time run (λ k below. c.loop-node.invariant k (omega (arith, all, below)))
