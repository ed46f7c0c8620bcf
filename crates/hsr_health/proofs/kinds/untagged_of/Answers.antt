use Rattle.std.proofs.Common.{◌∙◌, ap, map}
use Rattle.hsr_health.specs.Kinds.{untagged_by}
use Rattle.hsr_health.proofs.Sorting.{untagged_are}
use Rattle.hsr_health.proofs.kinds.untagged_of.Goals as goal

pub returns : goal.returns
returns c =
    untagged_are c.args.strays.now c.in_ok-keys.keys.items c.in_ok-counts.counts.items c.in_ok-kinds.kinds.items c.in_ok-keys.ensures.small c.in_ok-keys.ensures.keys c.in_ok-counts.ensures
    (c.in_ok-kinds.ensures ∙ ap (map untagged_by) c.as_slice.ensures.value)
