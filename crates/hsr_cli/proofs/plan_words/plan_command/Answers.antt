use Rattle.std.proofs.Common.{◌≡◌, ◌∙◌, IfOk, ap, codes, subst}
use Rattle.clap.specs.Words.{App, app_of, with_subcommand}
use Rattle.hsr_cli.specs.Choices.{certify_app}
use Rattle.hsr_cli.specs.Playing.{playing_app}
use Rattle.hsr_cli.specs.Reporting.{report_app}
use Rattle.hsr_cli.specs.Sweeping.{sweep_app}
use Rattle.hsr_cli.proofs.plan_words.plan_command.Goals as goal

pub returns : goal.returns
returns c =
    let one = c.in_ok-one.ensures ∙ ap (λ (a : App). with_subcommand a (playing_app (codes "run") c.args.tables).top) c.in_ok-alone.ensures in
    let two = c.in_ok-two.ensures ∙ ap (λ (a : App). with_subcommand a sweep_app.top) one in
    let three = c.in_ok-three.ensures ∙ ap (λ (a : App). with_subcommand a (certify_app c.args.tables).top) two in
    subst (λ (a : App). IfOk c.with_report.result (λ c'. app_of c' ≡ with_subcommand a report_app.top)) three c.with_report.ensures
