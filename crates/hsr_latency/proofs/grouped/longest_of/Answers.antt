use Rattle.std.proofs.Common.{◌∙◌, List, subst}
use Rattle.hsr_deliveries.specs.Counted.{value_of}
use Rattle.hsr_latency.specs.Taken.{AreLongest, group_of, taken}
use Rattle.hsr_latency.specs.declared.delay.Delay.{Delay}
use Rattle.hsr_latency.proofs.Grouping.{longest_by_same}
use Rattle.hsr_latency.proofs.grouped.longest_of.Goals as goal

pub returns : goal.returns
returns g c =
    let list = c.in_ok-longest.longest.items in
    let P : List Delay → Type 0 = λ delays. AreLongest (value_of c.in_ok-by_send.by_send) delays c.args.groups list in
    longest_by_same (value_of c.in_ok-by_send.by_send) (group_of c.args.members.now) (taken c.args.closed.now.run) c.args.groups list c.in_ok-by_send.ensures
    (subst P (c.as_slice.ensures.value ∙ c.in_ok-taken.ensures) c.in_ok-longest.ensures)
