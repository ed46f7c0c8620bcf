use Rattle.std.proofs.Common.{◌≡◌, ◌∙◌, IfOk, ap, codes, subst}
use Rattle.clap.specs.Words.{App, app_of, with_rule}
use Rattle.hsr_cli.specs.Flags.{flag_rule}
use Rattle.hsr_cli.proofs.playing.asking.Goals as goal

pub returns-clause-app : goal.returns-clause-app
returns-clause-app c =
    let two = c.in_ok-two.ensures.app ∙ ap (λ (a : App). with_rule a (flag_rule (codes "latency"))) c.in_ok-one.ensures.app in
    let three = c.in_ok-three.ensures.app ∙ ap (λ (a : App). with_rule a (flag_rule (codes "deliveries"))) two in
    let four = c.in_ok-four.ensures.app ∙ ap (λ (a : App). with_rule a (flag_rule (codes "needed"))) three in
    subst (λ (a : App). IfOk c.with_flag-5.result (λ c'. app_of c' ≡ with_rule a (flag_rule (codes "budget")))) four c.with_flag-5.ensures.app
