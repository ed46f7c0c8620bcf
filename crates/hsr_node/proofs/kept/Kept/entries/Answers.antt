use Rattle.std.proofs.Common.{reverse, subst}
use Rattle.hsr_node.specs.Kept.{Record, owner_of, past_of}
use Rattle.hsr_node.specs.Record.{IsLegal}
use Rattle.hsr_node.proofs.Replayed.{told}
use Rattle.hsr_node.proofs.kept.Kept.entries.Goals as goal

pub returns-clause-legal : goal.returns-clause-legal
returns-clause-legal g c =
    let kept = c.self.inside in
    subst (λ (r : Record). IsLegal g.row.C (owner_of r) (past_of r)) c.self.view_is
    (told g.row.C kept.number kept.place kept.node (reverse kept.entries.items) c.self.invariant).0
