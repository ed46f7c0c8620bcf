use Rattle.std.proofs.Common.{◌∙◌, sym}
use Rattle.clap.specs.Words.{found_of, first_value, rows_of, subcommand_rows_of}
use Rattle.clap.proofs.WalkLemmas.{first_value-rows}
use Rattle.hsr_options.proofs.Found.{first_part, joined, none_weaker, some_weaker}
use Rattle.hsr_cli.proofs.PlanFound.{chosen_from, chosen_to}
use Rattle.hsr_cli.proofs.plan_words.chosen_in.Goals as goal

pub returns-in-Some-clause-found : goal.returns-in-Some-clause-found
returns-in-Some-clause-found c =
    let name = c.in-Some.name.now in
    let rows = rows_of (found_of c.in-Some.inner.now) in
    let sub = joined (subcommand_rows_of c.args.matches.now) name rows (c.in-Some.ensures.name ∙ sym (first_part _ _ _)) c.in-Some.ensures.rows in
    some_weaker c.task_before.result _ _
    (λ task h. chosen_from (first_value (found_of c.args.matches.now)) _ _ _ name (first_value (found_of c.in-Some.inner.now)) rows task sub c.get_str-check.ensures c.get_str-table.ensures
    (first_value-rows (found_of c.in-Some.inner.now)) h) c.task_before.ensures.found

pub returns-in-Some-clause-none : goal.returns-in-Some-clause-none
returns-in-Some-clause-none c =
    let name = c.in-Some.name.now in
    let rows = rows_of (found_of c.in-Some.inner.now) in
    let sub = joined (subcommand_rows_of c.args.matches.now) name rows (c.in-Some.ensures.name ∙ sym (first_part _ _ _)) c.in-Some.ensures.rows in
    none_weaker c.task_before.result _ _
    (λ none task h. none task (chosen_to (first_value (found_of c.args.matches.now)) _ _ _ name (first_value (found_of c.in-Some.inner.now)) rows task sub c.get_str-check.ensures c.get_str-table.ensures
    (first_value-rows (found_of c.in-Some.inner.now)) h)) c.task_before.ensures.none
