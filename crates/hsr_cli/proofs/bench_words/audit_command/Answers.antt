use Rattle.std.proofs.Common.{◌≡◌, ◌∙◌, IfOk, ap, codes, subst}
use Rattle.clap.specs.Words.{App, app_of, with_rule}
use Rattle.hsr_cli.specs.Flags.{word_rule}
use Rattle.hsr_cli.specs.Playing.{table_rule, with_folder, with_told}
use Rattle.hsr_cli.proofs.bench_words.audit_command.Goals as goal

pub returns-clause-app : goal.returns-clause-app
returns-clause-app c =
    let one = c.in_ok-one.ensures.app ∙ ap (λ (a : App). with_rule a (table_rule c.args.choices)) c.ended_command-bare.ensures.app in
    let two = c.in_ok-two.ensures.app ∙ ap with_told one in
    let three = c.in_ok-three.ensures.app ∙ ap (λ (a : App). with_rule a (word_rule (codes "names"))) two in
    subst (λ (a : App). IfOk c.tabling.result (λ c'. app_of c' ≡ with_folder a)) three c.tabling.ensures.app
