use Rattle.std.proofs.Common.{List, subst, sym}
use Rattle.hsr_world_laws.specs.World.{World}
use Rattle.hsr_scenario.specs.Meaning.{scenario_view}
use Rattle.hsr_scenario.specs.declared.steps.Order.{Order}
use Rattle.hsr_ring.specs.Playing.{Halts}
use Rattle.hsr_commands.specs.Reading.{scenario_of}
use Rattle.hsr_commands.specs.ScenarioRun.{IsUnplayed}
use Rattle.hsr_commands.proofs.Said.{unplayed}
use Rattle.hsr_commands.proofs.scenario.played.Goals as goal

pub returns-in-Err-play-clause-err : goal.returns-in-Err-play-clause-err
returns-in-Err-play-clause-err g c =
    let from : World → Type 0 = λ w. Halts g.row.C c.in-Ok.scenario.steps.items c.in-Err-play.step w c.play.new.world c.in-Err-play.fault in
    let of : List Order → Type 0 = λ os. Halts g.row.C os c.in-Err-play.step c.in-Ok-new.world c.play.new.world c.in-Err-play.fault in
    subst (IsUnplayed g.row.C (scenario_of c.args.octets.now)) (sym c.of_step.ensures)
    (unplayed g.row.C (scenario_of c.args.octets.now) (scenario_view c.in-Ok.scenario) c.play.new.world c.in-Err-play.step c.in-Err-play.fault c.in-Ok.ensures.ok
    (subst from c.in-Ok-new.ensures (subst of c.as_slice.ensures.value c.in-Err-play.ensures.err)))
