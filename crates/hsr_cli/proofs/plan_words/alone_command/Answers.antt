use Rattle.std.proofs.Common.{◌≡◌, ◌∙◌, IfOk, ap, codes, subst}
use Rattle.clap.specs.Words.{App, app_of, with_rule}
use Rattle.hsr_cli.specs.Choices.{table_rule}
use Rattle.hsr_cli.specs.Flags.{flag_rule}
use Rattle.hsr_cli.proofs.plan_words.alone_command.Goals as goal

pub returns : goal.returns
returns c =
    let one = c.in_ok-one.ensures.app ∙ ap (λ (a : App). with_rule a (table_rule c.args.tables)) c.top_command.ensures.app in
    subst (λ (a : App). IfOk c.with_flag.result (λ c'. app_of c' ≡ with_rule a (flag_rule (codes "check")))) one c.with_flag.ensures.app
