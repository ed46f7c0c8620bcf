use Rattle.std.proofs.Common.{ℕ, ◌^◌, IfSome, List, subst, sym}
use Rattle.hsr_table_size.specs.Sizes.{capacity_of}
use Rattle.hsr_text.specs.Whole.{IsWhole}
use Rattle.hsr_commands.specs.Shown.{text_if}
use Rattle.hsr_commands.proofs.Opening.{run_told_text}
use Rattle.hsr_commands.proofs.scenario.scenario_run.Goals as goal

pub returns-in-Ok : goal.returns-in-Ok
returns-in-Ok g c =
    let all = g.R.Read.remaining c.args.reader.now in
    run_told_text (capacity_of c.args.table) c.args.shows_open c.args.showing (text_if c.args.folder) all c.as_slice.result.now _ _ c.run_and_deliver.result
    (subst (λ (read : List ℕ). IfSome all (λ text. IsWhole (2 ^ 24) text read)) (sym c.as_slice.ensures.value) c.in-Ok.ensures.ok) c.run_and_deliver.ensures.shown
