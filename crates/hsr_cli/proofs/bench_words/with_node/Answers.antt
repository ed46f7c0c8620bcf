use Rattle.std.proofs.Common.{◌∙◌, ap}
use Rattle.clap.specs.Words.{App, app_of, with_subcommand}
use Rattle.hsr_cli.proofs.bench_words.with_node.Goals as goal

pub returns : goal.returns
returns c = c.in_ok-whole.ensures.shape c.in_ok-node.ensures.own ∙ ap (λ (a : App). with_subcommand (app_of c.args.top) a.top) c.in_ok-node.ensures.app
