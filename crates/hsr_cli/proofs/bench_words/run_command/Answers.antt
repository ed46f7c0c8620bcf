use Rattle.std.proofs.Common.{◌≡◌, IfOk, codes, subst}
use Rattle.clap.specs.Words.{App, app_of, with_rule}
use Rattle.hsr_cli.specs.Flags.{flag_rule}
use Rattle.hsr_cli.proofs.bench_words.run_command.Goals as goal

pub returns-clause-app : goal.returns-clause-app
returns-clause-app c =
    subst (λ (a : App). IfOk c.with_flag.result (λ c'. app_of c' ≡ with_rule a (flag_rule (codes "open")))) c.in_ok-command.ensures.app c.with_flag.ensures.app
