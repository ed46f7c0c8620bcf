use Rattle.std.proofs.Common.{sym, subst, List, ◌∙◌}
use Rattle.std.proofs.lemmas.Bool.{false≢true}
use Rattle.hsr_link.specs.declared.row.Row.{Row}
use Rattle.hsr_finished_run.specs.Checked.{IsStranger}
use Rattle.hsr_finished_run.specs.Finished.{run_of}
use Rattle.hsr_run_index.specs.Origin.{IsOurs}
use Rattle.hsr_finished_run.proofs.Known.{stranger_at}
use Rattle.hsr_finished_run.proofs.strangers.stranger_of.Goals as goal

pub returns-then-not-is_ours : goal.returns-then-not-is_ours
returns-then-not-is_ours g c =
    let run = run_of g.row.C c.args.topology.now c.args.numbers.now c.args.rows.now in
    let P : List Row → Type 0 = λ list. IsStranger run list c.loop-i.i in
    subst P c.rows_at-list.ensures (stranger_at g.row.C c.args.topology.now c.args.numbers.now c.args.rows.now c.requires.shaped c.rows_at-list.result.now c.loop-i.i c.index-list-i.result c.loop-i-test.true c.index-list-i.is
    (λ o. false≢true (sym c.if-not-is_ours.true ∙ c.is_ours.ensures.1 (subst (λ links. IsOurs links c.args.numbers.now c.index-list-i.result) (sym c.requires.links) o))) c.loop-i.invariant)
