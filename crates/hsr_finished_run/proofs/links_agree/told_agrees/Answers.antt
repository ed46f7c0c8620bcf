use Rattle.std.proofs.Common.{◌↔◌, IfOk, IsTrue, Bool, sym, subst}
use Rattle.hsr_finished_run.specs.Checked.{ToldAgrees}
use Rattle.hsr_finished_run.specs.Finished.{run_of}
use Rattle.hsr_run_index.specs.declared.agreement.Passage.{Passage}
use Rattle.hsr_finished_run.proofs.links_agree.told_agrees.Goals as goal

pub returns-in-Put : goal.returns-in-Put
returns-in-Put g c =
    let run = run_of g.row.C c.args.topology.now c.args.kept.now c.args.rows.now in
    subst (λ (which : Passage). IfOk c.put_agrees.result (λ (agrees : Bool). IsTrue agrees ↔ ToldAgrees which run c.args.link c.args.dir)) (sym c.in-Put.is) c.put_agrees.ensures

pub returns-in-Taken : goal.returns-in-Taken
returns-in-Taken g c =
    let run = run_of g.row.C c.args.topology.now c.args.kept.now c.args.rows.now in
    subst (λ (which : Passage). IfOk c.taken_agrees.result (λ (agrees : Bool). IsTrue agrees ↔ ToldAgrees which run c.args.link c.args.dir)) (sym c.in-Taken.is) c.taken_agrees.ensures
