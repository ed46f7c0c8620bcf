use Rattle.std.proofs.Common.{rules, ◌<◌, ap, length}
use Rattle.hsr_plan_scenario.specs.Spelled.{mac_text}
use Rattle.hsr_plan_scenario.proofs.Growing.{listed_more}
use Rattle.hsr_plan_scenario.proofs.places.put_listed_macs.Goals as goal

pub loop-i-preserved : goal.loop-i-preserved
loop-i-preserved c =
    let below : c.loop-i.i < length c.args.macs.now = search rules in
    listed_more mac_text c.loop-i.i c.args.macs.now c.index-macs-i.result c.args.text.now.items _ _ _ _ below c.loop-i.invariant c.in_ok-put_comma.ensures
    (ap mac_text c.index-macs-i.is) c.in_ok-put_mac.ensures
