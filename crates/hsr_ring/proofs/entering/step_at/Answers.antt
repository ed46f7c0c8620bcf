use Rattle.std.proofs.Common.{ap, ◌∙◌, set}
use Rattle.std.proofs.lemmas.List.{set-get_or}
use Rattle.hsr_node.specs.Kept.{Record}
use Rattle.hsr_ring.proofs.Entered.{refused_at, stepped, still_numbered, there}
use Rattle.hsr_ring.proofs.entering.step_at.Goals as goal

pub returns-in-Ok-clause-numbered : goal.returns-in-Ok-clause-numbered
returns-in-Ok-clause-numbered g c =
    still_numbered c.args.nodes.now c.args.node c.enter.new.self c.index-nodes-node.result c.requires.numbered (ap (λ (r : Record). r.number) c.in-Ok.ensures.kept)

pub returns-in-Ok-clause-ok : goal.returns-in-Ok-clause-ok
returns-in-Ok-clause-ok g c =
    stepped g.row.C c.args.worker c.args.node c.args.at c.args.event c.args.nodes.now c.enter.new.self c.index-nodes-node.result c.in-Ok.answer c.requires.numbered c.requires.below
    c.in-Ok.ensures.kept c.in-Ok.ensures.place c.in-Ok.ensures.answered

pub returns-in-Ok-clause-there : goal.returns-in-Ok-clause-there
returns-in-Ok-clause-there g c =
    there c.args.node c.in-Ok.answer.place _ c.args.nodes.now c.enter.new.self c.index-nodes-node.result c.requires.below c.in-Ok.ensures.kept c.in-Ok.ensures.place

pub returns-in-Err-clause-err : goal.returns-in-Err-clause-err
returns-in-Err-clause-err g c = (
  ap (set c.args.nodes.now c.args.node) c.in-Err.ensures.refused.0 ∙ set-get_or c.args.nodes.now c.args.node c.index-nodes-node.result,
  c.in-Err.ensures.refused.1,
  refused_at g.row.C c.args.nodes.now c.args.node c.args.at c.args.event c.index-nodes-node.result c.in-Err.fault c.of_node.result c.requires.numbered c.requires.below
      c.of_node.ensures c.in-Err.ensures.answered,
)
