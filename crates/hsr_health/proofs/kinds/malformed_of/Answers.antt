use Rattle.std.proofs.Common.{◌∙◌, ap, map}
use Rattle.hsr_health.specs.Kinds.{malformed_by}
use Rattle.hsr_health.proofs.Sorting.{malformed_are}
use Rattle.hsr_health.proofs.kinds.malformed_of.Goals as goal

pub returns : goal.returns
returns c =
    malformed_are c.args.strays.now c.in_ok-keys.keys.items c.in_ok-counts.counts.items c.in_ok-kinds.kinds.items c.in_ok-keys.ensures c.in_ok-counts.ensures
    (c.in_ok-kinds.ensures ∙ ap (map malformed_by) c.as_slice.ensures.value)
