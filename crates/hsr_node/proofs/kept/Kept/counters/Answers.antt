use Rattle.std.proofs.Common.{reverse, ap, ◌∙◌}
use Rattle.hsr_node.specs.Counts.{counters}
use Rattle.hsr_node.specs.Kept.{Record, past_of}
use Rattle.hsr_node.proofs.Replayed.{counters-told, told}
use Rattle.hsr_node.proofs.kept.Kept.counters.Goals as goal

pub returns-clause-value : goal.returns-clause-value
returns-clause-value g c =
    let kept = c.self.inside in
    let past = reverse kept.entries.items in
    c.counters.ensures.value
    ∙ counters-told g.row.C kept.number kept.place kept.node past (told g.row.C kept.number kept.place kept.node past c.self.invariant).1
    ∙ ap (λ (r : Record). counters r.place (past_of r)) c.self.view_is
