use Rattle.std.proofs.Common.{◌≡◌, IfOk, codes, subst}
use Rattle.clap.specs.Words.{Text, app_of, with_rule}
use Rattle.hsr_cli.specs.Flags.{choice_rule}
use Rattle.hsr_cli.proofs.playing.with_table.Goals as goal

pub returns-clause-app : goal.returns-clause-app
returns-clause-app c =
    subst (λ (word : Text). IfOk c.with_choice.result (λ c'. app_of c' ≡ with_rule (app_of c.args.command) (choice_rule (codes "table") c.args.tables word))) c.word.ensures c.with_choice.ensures.app
