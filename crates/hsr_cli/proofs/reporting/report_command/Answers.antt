use Rattle.std.proofs.Common.{◌≡◌, ◌∙◌, IfOk, ap, codes, subst}
use Rattle.clap.specs.Words.{App, app_of, with_rule}
use Rattle.hsr_cli.specs.Flags.{word_rule}
use Rattle.hsr_cli.specs.Sweeping.{at_rule, with_limits}
use Rattle.hsr_cli.proofs.reporting.report_command.Goals as goal

pub returns-clause-app : goal.returns-clause-app
returns-clause-app c =
    let one = c.in_ok-one.ensures.app ∙ ap (λ (a : App). with_rule a (word_rule (codes "date"))) c.bare_command-bare.ensures.app in
    let two = c.in_ok-two.ensures.app ∙ ap (λ (a : App). with_rule a at_rule) one in
    let three = c.in_ok-three.ensures.app ∙ ap (λ (a : App). with_rule a (word_rule (codes "within"))) two in
    subst (λ (a : App). IfOk c.limiting.result (λ c'. app_of c' ≡ with_limits a)) three c.limiting.ensures.app
