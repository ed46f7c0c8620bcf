use Rattle.std.proofs.Common.{sym, subst, refl}
use Rattle.hsr_scenario.specs.Meaning.{scenario_view}
use Rattle.hsr_commands.specs.Reading.{scenario_of}
use Rattle.hsr_commands.specs.ThreadsRun.{IsUnrun}
use Rattle.hsr_commands.proofs.Runs.{unrun}
use Rattle.hsr_commands.proofs.threads.ran.Goals as goal

pub returns-clause-err : goal.returns-clause-err
returns-clause-err g c =
    let why = c.in-Err-run_threads in
    subst (IsUnrun g.row.C (scenario_of c.args.octets.now)) (sym c.run_fault.ensures)
    (unrun g.row.C (scenario_of c.args.octets.now) (scenario_view c.in-Ok.scenario) _ _ why.fault _ refl refl c.in-Ok.ensures.ok refl why.ensures.fine why.ensures.fault why.ensures.shut)
