use Rattle.std.proofs.Common.{◌≡◌, ◌∙◌, IfOk, ap, ap₂, codes, subst}
use Rattle.clap.specs.Words.{App, Text, app_of, with_rule}
use Rattle.hsr_cli.specs.Flags.{choice_rule}
use Rattle.hsr_cli.specs.Options.{mac_rule}
use Rattle.hsr_cli.specs.Playing.{table_rule}
use Rattle.hsr_cli.proofs.bench_words.node_command.Goals as goal

pub returns-clause-app : goal.returns-clause-app
returns-clause-app c =
    let roles = λ (a : App) (word : Text). with_rule a (choice_rule (codes "role") c.args.roles word) in
    let modes = λ (a : App) (word : Text). with_rule a (choice_rule (codes "mode") c.args.modes word) in
    let units = λ (a : App) (word : Text). with_rule a (choice_rule (codes "unit") c.args.units word) in
    let one = c.in_ok-one.ensures.app ∙ ap₂ roles c.ended_command-bare.ensures.app c.word.ensures in
    let two = c.in_ok-two.ensures.app ∙ ap (λ (a : App). with_rule a mac_rule) one in
    let three = c.in_ok-three.ensures.app ∙ ap₂ modes two c.word-2.ensures in
    let four = c.in_ok-four.ensures.app ∙ ap (λ (a : App). with_rule a (table_rule c.args.tables)) three in
    let five = ap₂ units four c.word-3.ensures in
    subst (λ (a : App). IfOk c.with_choice-3.result (λ c'. app_of c' ≡ a)) five c.with_choice-3.ensures.app
