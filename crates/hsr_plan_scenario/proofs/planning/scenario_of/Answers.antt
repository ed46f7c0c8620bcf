use Rattle.std.proofs.Common.{List, ℕ, inr, subst}
use Rattle.hsr_plan_text.specs.Meaning.{plan_of}
use Rattle.hsr_plan_scenario.specs.Refusals.{HasNoneIf}
use Rattle.hsr_plan_scenario.proofs.Troubles.{none_so}
use Rattle.hsr_plan_scenario.proofs.planning.scenario_of.Goals as goal

pub returns-in-Err-clause-unplanned : goal.returns-in-Err-clause-unplanned
returns-in-Err-clause-unplanned g c line =
    let P : List ℕ → Type 0 = λ text. HasNoneIf g.row.C (plan_of text) in
    inr (subst P c.in-Ok.ensures.cases.0 (none_so g.row.C (plan_of c.in-Ok.text.now) c.in-Err.trouble (c.line_of.ensures line) c.in-Err.ensures.trouble))
