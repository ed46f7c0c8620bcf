use Rattle.std.proofs.Common.{◌≡◌, ◌++◌, ◌-◌, codes}
use Rattle.hsr_plan_outages.specs.Lines.{names_text, nodes_among, nodes_in}
use Rattle.hsr_plan_outages.proofs.lines.put_missed.Given as goal

abbrev pub invariant-loop-number : goal.invariant-loop-number
invariant-loop-number l = l.text.items ++ names_text l.nodes l.mark (nodes_among l.set l.number (64 - l.number))
    ≡ l.initial.text.items ++ names_text l.nodes (codes " from ") (nodes_in l.set)
