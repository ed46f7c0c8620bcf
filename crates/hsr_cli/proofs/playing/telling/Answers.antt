use Rattle.std.proofs.Common.{◌≡◌, ◌∙◌, IfOk, ap, codes, subst}
use Rattle.clap.specs.Words.{App, app_of, with_rule}
use Rattle.hsr_cli.specs.Flags.{flag_rule}
use Rattle.hsr_cli.proofs.playing.telling.Goals as goal

pub returns-clause-app : goal.returns-clause-app
returns-clause-app c =
    let two = c.in_ok-two.ensures.app ∙ ap (λ (a : App). with_rule a (flag_rule (codes "network"))) c.in_ok-one.ensures.app in
    subst (λ (a : App). IfOk c.with_flag-2.result (λ c'. app_of c' ≡ with_rule a (flag_rule (codes "explain")))) two c.with_flag-2.ensures.app
