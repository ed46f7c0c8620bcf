use Rattle.clap.specs.Words.{first_value, found_of}
use Rattle.hsr_cli.proofs.BenchFound.{no_node, none_so}
use Rattle.hsr_cli.proofs.bench_words.node_options.Goals as goal

pub returns-in_err-table-clause-none : goal.returns-in_err-table-clause-none
returns-in_err-table-clause-none c =
    none_so c.from_residual-in_err-table.result _ (no_node (first_value (found_of c.args.matches.now)) c.in_err-table.ensures.none)
