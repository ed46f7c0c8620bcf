use Rattle.std.proofs.Common.{◌∙◌, ap, map}
use Rattle.hsr_health.specs.Kinds.{vlan_by}
use Rattle.hsr_health.proofs.Tagging.{vlans_are}
use Rattle.hsr_health.proofs.kinds.vlans_of.Goals as goal

pub returns : goal.returns
returns c =
    vlans_are c.args.copies.now c.in_ok-keys.keys.items c.in_ok-counts.counts.items c.in_ok-kinds.kinds.items c.in_ok-keys.ensures c.in_ok-counts.ensures
    (c.in_ok-kinds.ensures ∙ ap (map vlan_by) c.as_slice.ensures.value)
