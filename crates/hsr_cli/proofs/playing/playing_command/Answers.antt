use Rattle.std.proofs.Common.{◌≡◌, ◌∙◌, IfOk, ap, codes, subst}
use Rattle.clap.specs.Words.{App, app_of, with_rule}
use Rattle.hsr_cli.specs.Flags.{flag_rule}
use Rattle.hsr_cli.specs.Playing.{table_rule, with_folder, with_told}
use Rattle.hsr_cli.proofs.playing.playing_command.Goals as goal

pub returns-clause-app : goal.returns-clause-app
returns-clause-app c =
    let one = c.in_ok-one.ensures.app ∙ ap (λ (a : App). with_rule a (table_rule c.args.tables)) c.ended_command-bare.ensures.app in
    let two = c.in_ok-two.ensures.app ∙ ap (λ (a : App). with_rule a (flag_rule (codes "transcript"))) one in
    let three = c.in_ok-three.ensures.app ∙ ap with_told two in
    let four = c.in_ok-four.ensures.app ∙ ap (λ (a : App). with_rule a (flag_rule (codes "names"))) three in
    subst (λ (a : App). IfOk c.tabling.result (λ c'. app_of c' ≡ with_folder a)) four c.tabling.ensures.app
