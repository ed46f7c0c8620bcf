use Rattle.std.proofs.Common.{◌∙◌, sym}
use Rattle.clap.specs.Words.{subcommand_rows_of, rows_of, found_of, first_of, first_value}
use Rattle.clap.proofs.WalkLemmas.{first_value-rows}
use Rattle.hsr_options.proofs.Found.{first_part, joined, none_weaker, some_weaker}
use Rattle.hsr_cli.proofs.BenchFound.{chosen_from, chosen_same, chosen_to}
use Rattle.hsr_cli.proofs.bench_words.chosen_in.Goals as goal

pub returns-clause-found : goal.returns-clause-found
returns-clause-found c =
    let found = subcommand_rows_of c.args.matches.now in
    let name = c.in_ok-name.name.now in
    let inner = found_of c.in_ok-name.inner.now in
    let names = c.in_ok-name.ensures.name ∙ sym (first_part _ _ _) in
    some_weaker c.options_of.result _ _
    (λ o h. chosen_from found name (rows_of inner) o (joined found name (rows_of inner) names c.in_ok-name.ensures.rows)
    (chosen_same name (first_value inner) (λ id. first_of id (rows_of inner)) o (λ id. first_value-rows inner id) h)) c.options_of.ensures.found

pub returns-clause-none : goal.returns-clause-none
returns-clause-none c =
    let found = subcommand_rows_of c.args.matches.now in
    let name = c.in_ok-name.name.now in
    let inner = found_of c.in_ok-name.inner.now in
    let names = c.in_ok-name.ensures.name ∙ sym (first_part _ _ _) in
    none_weaker c.options_of.result _ _
    (λ none o h. none o (chosen_same name (λ id. first_of id (rows_of inner)) (first_value inner) o (λ id. sym (first_value-rows inner id))
    (chosen_to found name (rows_of inner) o (joined found name (rows_of inner) names c.in_ok-name.ensures.rows) h))) c.options_of.ensures.none
