use Rattle.std.proofs.Common.{◌≡◌, ◌∷◌, ◌++◌, [], List, ap, ◌∙◌, arith}
use Rattle.std.proofs.lemmas.Grind.{common_steps}
use Rattle.hsr_faults.specs.declared.fault.Off.{Off}
use Rattle.hsr_faults.specs.declared.fault.Off.TheVariants.{Link}
use Rattle.hsr_faults.proofs.Listed.{link_more}
use Rattle.hsr_faults.proofs.faults.push_links.Goals as goal

pub loop-link-preserved : goal.loop-link-preserved
loop-link-preserved c =
    let pushed = c.push.ensures.items in
    let before = c.loop-link.list.items in
    let more : c.push.new.self.items ≡ before ++ Link c.loop-link.link ∷ [] = grind (arith, common_steps) in
    more ∙ (ap (λ (xs : List Off). xs ++ Link c.loop-link.link ∷ []) c.loop-link.invariant ∙ link_more c.loop-link.link)
