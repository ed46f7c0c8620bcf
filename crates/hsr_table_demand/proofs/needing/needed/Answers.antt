use Rattle.std.proofs.Common.{rules, ◌≡◌, ◌+◌, ℕ, length, subst, sym, arith}
use Rattle.hsr_run_laws.specs.Run.{Run, record_of}
use Rattle.hsr_table_demand.specs.Needs.{IsMost}
use Rattle.hsr_table_demand.specs.Walked.{IsMostBefore, walked}
use Rattle.hsr_table_demand.specs.declared.most.Needed.{Needed}
use Rattle.hsr_table_demand.proofs.Sufficing.{just_enough}
use Rattle.hsr_table_demand.proofs.Walking.{most_is, most_next, most_walked}
use Rattle.hsr_table_demand.proofs.needing.needed.Goals as goal

pub loop-node-preserved : goal.loop-node-preserved
loop-node-preserved g c =
    let run : Run = c.args.closed.now.run in
    let k : ℕ = c.loop-node.node in
    let n : ℕ = length (record_of run k) in
    let P : Needed → Type 0 = λ m. IsMostBefore run (k + 1) 0 m in
    subst P (sym c.in_ok-needed.ensures) (most_next run k n (walked run k c.loop-node.needed n) (omega arith) (most_walked run k c.loop-node.needed c.loop-node.invariant n (omega arith)))

pub returns : goal.returns
returns g c =
    let run : Run = c.args.closed.now.run in
    let all : c.loop-node.node ≡ length run.places = search rules in
    let most : IsMost run c.loop-node.needed = most_is run c.loop-node.node c.loop-node.needed all c.loop-node.invariant in
    record { most = most; enough = just_enough run c.loop-node.needed most }
