use Rattle.std.proofs.Common.{◌≡◌, ◌∙◌, IfOk, ap, codes, subst}
use Rattle.clap.specs.Words.{App, app_of, with_subcommand}
use Rattle.hsr_cli.specs.Options.{audit_app, certify_app, node_app, run_app}
use Rattle.hsr_cli.specs.Playing.{playing_app}
use Rattle.hsr_cli.proofs.bench_words.bench_command.Goals as goal

pub returns : goal.returns
returns c =
    let node = node_app c.args.roles c.args.modes c.args.tables c.args.units in
    let one = c.in_ok-one.ensures ∙ ap (λ (a : App). with_subcommand a node.top) c.in_ok-top.ensures in
    let two = c.in_ok-two.ensures ∙ ap (λ (a : App). with_subcommand a (run_app c.args.tables).top) one in
    let three = c.in_ok-three.ensures ∙ ap (λ (a : App). with_subcommand a (playing_app (codes "threads") c.args.tables).top) two in
    let four = c.in_ok-four.ensures ∙ ap (λ (a : App). with_subcommand a (audit_app c.args.choices).top) three in
    subst (λ (a : App). IfOk c.with_certify.result (λ c'. app_of c' ≡ with_subcommand a (certify_app c.args.tables).top)) four c.with_certify.ensures
