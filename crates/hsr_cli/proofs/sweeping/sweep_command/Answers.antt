use Rattle.std.proofs.Common.{◌≡◌, ◌∙◌, IfOk, ap, codes, subst}
use Rattle.clap.specs.Words.{App, app_of, with_rule}
use Rattle.hsr_cli.specs.Flags.{flag_rule, word_rule}
use Rattle.hsr_cli.specs.Sweeping.{at_rule, with_limits}
use Rattle.hsr_cli.proofs.sweeping.sweep_command.Goals as goal

pub returns-clause-app : goal.returns-clause-app
returns-clause-app c =
    let one = c.in_ok-one.ensures.app ∙ ap (λ (a : App). with_rule a at_rule) c.bare_command.ensures.app in
    let two = c.in_ok-two.ensures.app ∙ ap (λ (a : App). with_rule a (flag_rule (codes "without-events"))) one in
    let three = c.in_ok-three.ensures.app ∙ ap (λ (a : App). with_rule a (flag_rule (codes "pairs"))) two in
    let four = c.in_ok-four.ensures.app ∙ ap (λ (a : App). with_rule a (word_rule (codes "part"))) three in
    subst (λ (a : App). IfOk c.limiting.result (λ c'. app_of c' ≡ with_limits a)) four c.limiting.ensures.app
