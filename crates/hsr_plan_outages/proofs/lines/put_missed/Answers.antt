use Rattle.std.proofs.Common.{rules, ◌≤◌, ◌∙◌, ◌++◌, ℕ, List, ap, sym}
use Rattle.std.proofs.lemmas.List.{append-nil}
use Rattle.hsr_plan_outages.specs.Lines.{names_text}
use Rattle.hsr_plan_outages.proofs.Listing.{none_above}
use Rattle.hsr_plan_outages.proofs.lines.put_missed.Goals as goal

pub returns : goal.returns
returns c =
    let high : 64 ≤ c.loop-number.number = search rules in
    let text : List ℕ = c.loop-number.text.items in
    let none = none_above c.args.set c.loop-number.number high in
    sym (ap (λ ks. text ++ names_text c.args.nodes.now c.loop-number.mark.now ks) none ∙ append-nil text) ∙ c.loop-number.invariant
