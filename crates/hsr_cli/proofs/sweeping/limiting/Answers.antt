use Rattle.std.proofs.Common.{◌≡◌, IfOk, codes, subst}
use Rattle.clap.specs.Words.{App, app_of, with_rule}
use Rattle.hsr_cli.specs.Flags.{word_rule}
use Rattle.hsr_cli.proofs.sweeping.limiting.Goals as goal

pub returns-clause-app : goal.returns-clause-app
returns-clause-app c =
    subst (λ (a : App). IfOk c.with_word-2.result (λ c'. app_of c' ≡ with_rule a (word_rule (codes "limit-latency")))) c.in_ok-one.ensures.app c.with_word-2.ensures.app
