use Rattle.std.proofs.Common.{◌≡◌, ◌∙◌, IfOk, ap, codes, subst}
use Rattle.clap.specs.Words.{App, app_of, with_rule}
use Rattle.hsr_cli.specs.Choices.{table_rule}
use Rattle.hsr_cli.specs.Flags.{flag_rule, word_rule}
use Rattle.hsr_cli.proofs.plan_words.certify_command.Goals as goal

pub returns-clause-app : goal.returns-clause-app
returns-clause-app c =
    let one = c.in_ok-one.ensures.app ∙ ap (λ (a : App). with_rule a (table_rule c.args.tables)) c.bare_command-bare.ensures.app in
    let two = c.in_ok-two.ensures.app ∙ ap (λ (a : App). with_rule a (word_rule (codes "within"))) one in
    let three = c.in_ok-three.ensures.app ∙ ap (λ (a : App). with_rule a (flag_rule (codes "sweep"))) two in
    subst (λ (a : App). IfOk c.with_flag-2.result (λ c'. app_of c' ≡ with_rule a (flag_rule (codes "pairs")))) three c.with_flag-2.ensures.app
