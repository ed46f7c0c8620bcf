use Rattle.hsr_plan_scenario.proofs.Troubles.{tells}
use Rattle.hsr_plan_scenario.proofs.checking.check.Goals as goal

pub returns-clause-tells : goal.returns-clause-tells
returns-clause-tells c =
    tells c.args.outline.now c.args.meant.now c.args.text.now c.in-Ok.words.now c.check_names.result c.in-Ok.ensures.cases.0 c.in-Ok.ensures.cases.1 c.requires.spelled
    c.in_ok-check_meaning.ensures.means c.check_names.ensures.named
