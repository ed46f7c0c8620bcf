use Rattle.std.proofs.Common.{inl, inr, map, List}
use Rattle.clap.specs.Words.{Text, app_of}
use Rattle.hsr_cli.specs.Choices.{IsPlanner}
use Rattle.hsr_cli.proofs.PlanFound.{chooses, chosen, is_free, is_simple_so}
use Rattle.hsr_cli.proofs.Refusing.{fault_found, usage_weaker}
use Rattle.hsr_cli.proofs.plan_words.task_by.Goals as goal

pub returns-in-Some-clause-found : goal.returns-in-Some-clause-found
returns-in-Some-clause-found c =
    let words : List Text = map (λ s. s.now) c.args.words.now in
    let app = app_of c.in_ok-command.command in
    let is : IsPlanner app = (c.tables.result, c.tables.ensures, c.in_ok-command.ensures) in
    let found = c.in-Ok.ensures.matches (is_simple_so app is) in
    (app, is, c.in-Ok.ensures.kinds (is_free app is), chooses app words c.in-Ok.matches c.in-Some.task found.0 found.1 c.in-Some.ensures.found)

pub returns-in-Ok-clause-refused : goal.returns-in-Ok-clause-refused
returns-in-Ok-clause-refused c =
    let words : List Text = map (λ s. s.now) c.args.words.now in
    let app = app_of c.in_ok-command.command in
    let is : IsPlanner app = (c.tables.result, c.tables.ensures, c.in_ok-command.ensures) in
    let found = c.in-Ok.ensures.matches (is_simple_so app is) in
    usage_weaker c.usage.result _ _
    (λ text said. (app, is, inr (c.in-Ok.ensures.kinds (is_free app is), λ task h. c.in-None.ensures.none task (chosen app words c.in-Ok.matches task found.0 found.1 h), said)))
    c.usage.ensures

pub returns-clause-refused : goal.returns-clause-refused
returns-clause-refused c =
    let app = app_of c.in_ok-command.command in
    let is : IsPlanner app = (c.tables.result, c.tables.ensures, c.in_ok-command.ensures) in
    usage_weaker c.refused.result _ _
    (λ text room. (app, is, inl (fault_found _ c.in-Err.error (c.in-Err.ensures.kinds (is_free app is)) room))) c.refused.ensures.kind
