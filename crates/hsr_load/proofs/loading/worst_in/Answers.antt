use Rattle.std.proofs.Common.{◌∙◌, List, ap, subst}
use Rattle.std.specs.Prelude.{IfOk}
use Rattle.hsr_load.specs.Carried.{Channel}
use Rattle.hsr_load.specs.Windows.{IsWorstIf}
use Rattle.hsr_load.specs.declared.transit.Transit.{Transit}
use Rattle.hsr_load.proofs.loading.worst_in.Goals as goal

pub returns : goal.returns
returns c =
    let same = c.as_slice.ensures.value ∙ ap (λ (ch : Channel). ch.transits) c.channel.view_is in
    subst (λ (ts : List Transit). IfOk c.worst_of.result (IsWorstIf ts)) same c.worst_of.ensures
