use Rattle.hsr_commands.specs.Naming.{names_in}
use Rattle.hsr_commands.specs.Reading.{scenario_of}
use Rattle.hsr_commands.specs.Shown.{text_if}
use Rattle.hsr_commands.proofs.Opening.{opened}
use Rattle.hsr_commands.proofs.scenario.reported.Goals as goal

pub returns-clause-ok : goal.returns-clause-ok
returns-clause-ok g c =
    opened g.row.C c.args.shows_open c.args.showing (text_if c.args.folder) (scenario_of c.args.octets.now) (names_in c.args.octets.now) _ _ _ _ _ _ c.in-Ok.ensures.ok
    c.in-Err-close.ensures.whole c.in-Err-close.ensures.refused c.places-places.ensures.value c.left_open.ensures.ok
