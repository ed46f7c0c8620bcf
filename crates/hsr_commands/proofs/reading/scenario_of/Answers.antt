use Rattle.std.proofs.Common.{◌∙◌, subst, sym}
use Rattle.hsr_commands.specs.Reading.{IsNoScenario, scenario_of}
use Rattle.hsr_commands.proofs.Said.{a_text, no_text, unread}
use Rattle.hsr_commands.proofs.reading.scenario_of.Goals as goal

pub returns-in_default-clause-err : goal.returns-in_default-clause-err
returns-in_default-clause-err c = no_text c.args.octets.now c.in_default.ensures.cases.0

pub returns-in-Ok-read-clause-ok : goal.returns-in-Ok-read-clause-ok
returns-in-Ok-read-clause-ok c = a_text c.args.octets.now c.in-Ok.text.now c.in-Ok.ensures.cases.0 c.in-Ok.ensures.cases.1 ∙ c.in-Ok-read.ensures

pub returns-in-Err-clause-err : goal.returns-in-Err-clause-err
returns-in-Err-clause-err c =
    subst (IsNoScenario (scenario_of c.args.octets.now)) (sym c.text_fault.ensures)
    (unread (scenario_of c.args.octets.now) c.in-Err.fault c.in-Err.fault.what _ (a_text c.args.octets.now c.in-Ok.text.now c.in-Ok.ensures.cases.0 c.in-Ok.ensures.cases.1) c.in-Err.ensures)
