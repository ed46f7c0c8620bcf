use Rattle.std.proofs.Common.{◌≡◌, drop}
use Rattle.hsr_node.specs.Record.{Owner}
use Rattle.hsr_run_index.specs.InOrder.{copies_of_passage, passed}
use Rattle.hsr_run_index.specs.declared.agreement.Passage.TheVariants.{Put}
use Rattle.hsr_run_index.proofs.agreement.puts_in_order.Given as goal

-- what is left answers for all
abbrev pub invariant-loop-at : goal.invariant-loop-at
invariant-loop-at l =
    let owner : Owner = record { number = l.fn.number; place = l.fn.place } in
    passed owner l.fn.port l.at (drop l.at l.entries) ≡ copies_of_passage Put l.fn.dir l.left → passed owner l.fn.port 0 l.entries ≡ copies_of_passage Put l.fn.dir l.fn.rows
