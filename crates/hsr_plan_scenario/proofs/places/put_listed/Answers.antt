use Rattle.std.proofs.Common.{rules, ◌<◌, ◌∙◌, length}
use Rattle.hsr_plan_scenario.proofs.Growing.{listed_more}
use Rattle.hsr_plan_scenario.proofs.places.put_listed.Goals as goal

pub loop-i-preserved : goal.loop-i-preserved
loop-i-preserved c =
    let below : c.loop-i.i < length c.args.names.now = search rules in
    listed_more (λ n. n) c.loop-i.i c.args.names.now c.index-names-i.result c.args.text.now.items _ _ _ _ below c.loop-i.invariant c.in_ok-put_comma.ensures
    (c.as_bytes.ensures ∙ c.index-names-i.is) c.in_ok-put_octets.ensures.ok
