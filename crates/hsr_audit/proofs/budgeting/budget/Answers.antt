use Rattle.std.proofs.lemmas.Result.{IfErr-weaker, IfOk-weaker}
use Rattle.hsr_finished_run.proofs.Shaped.{from_there}
use Rattle.hsr_run_laws.specs.Run.{Run}
use Rattle.hsr_audit.specs.Budgeted.{IsFirstBreach, IsOverspent}
use Rattle.hsr_audit.proofs.Spending.{breach_refuses, enough_is}
use Rattle.hsr_audit.proofs.budgeting.budget.Goals as goal

pub returns-clause-refused : goal.returns-clause-refused
returns-clause-refused g c =
    let run : Run = c.args.closed.now.run in
    IfErr-weaker c.budget_of.result (IsFirstBreach run) (IsOverspent run) (breach_refuses run) c.budget_of.ensures.first

pub returns-clause-enough : goal.returns-clause-enough
returns-clause-enough g c =
    let run : Run = c.args.closed.now.run in
    let finished = c.budget_of.ensures.finished in
    IfOk-weaker c.budget_of.result _ _
    (λ b held. enough_is run (λ l dir below. from_there run.places run.links finished.wired l dir below) finished.closed
    c.budget_keeps.ensures c.budget_tells.ensures c.once_in_budget.ensures c.boxless.ensures c.no_storm.ensures held)
    c.budget_of.ensures.held
