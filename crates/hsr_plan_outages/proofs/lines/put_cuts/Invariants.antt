use Rattle.std.proofs.Common.{◌≡◌, ◌++◌, codes, drop}
use Rattle.hsr_plan_outages.specs.Lines.{cuts_text}
use Rattle.hsr_plan_outages.proofs.lines.put_cuts.Given as goal

abbrev pub invariant-loop-cut : goal.invariant-loop-cut
invariant-loop-cut l = l.text.items ++ cuts_text l.nodes l.mark (drop l.cut-index l.cuts) ≡ l.initial.text.items ++ cuts_text l.nodes (codes ": ") l.cuts
