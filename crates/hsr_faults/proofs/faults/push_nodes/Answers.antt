use Rattle.std.proofs.Common.{◌≡◌, ◌∷◌, ◌++◌, [], List, ap, ◌∙◌, arith}
use Rattle.std.proofs.lemmas.Grind.{common_steps}
use Rattle.hsr_faults.specs.declared.fault.Off.{Off}
use Rattle.hsr_faults.specs.declared.fault.Off.TheVariants.{Node}
use Rattle.hsr_faults.proofs.Listed.{node_more}
use Rattle.hsr_faults.proofs.faults.push_nodes.Goals as goal

pub loop-node-preserved : goal.loop-node-preserved
loop-node-preserved c =
    let pushed = c.push.ensures.items in
    let before = c.loop-node.list.items in
    let more : c.push.new.self.items ≡ before ++ Node c.loop-node.node ∷ [] = grind (arith, common_steps) in
    more ∙ (ap (λ (xs : List Off). xs ++ Node c.loop-node.node ∷ []) c.loop-node.invariant ∙ node_more c.args.links c.loop-node.node)
