use Rattle.std.proofs.Common.{rules, ◌<◌, [], length}
use Rattle.hsr_plan_scenario.specs.Spelled.{link_line}
use Rattle.hsr_plan_scenario.proofs.Growing.{numbered_more}
use Rattle.hsr_plan_scenario.proofs.places.put_link_lines.Goals as goal

pub loop-number-preserved : goal.loop-number-preserved
loop-number-preserved c =
    let below : c.loop-number.number < length c.args.links.now = search rules in
    numbered_more (link_line c.args.nodes.now) c.loop-number.number c.args.links.now [] c.args.text.now.items _ _ below c.loop-number.invariant c.in_ok-put_link.ensures
