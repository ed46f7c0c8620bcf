use Rattle.std.proofs.Common.{◌≡◌, ◌++◌, drop}
use Rattle.hsr_node.specs.Record.{Owner}
use Rattle.hsr_run_index.specs.InOrder.{passed}
use Rattle.hsr_run_index.proofs.agreement.passed.Given as goal

abbrev pub invariant-loop-at : goal.invariant-loop-at
invariant-loop-at l =
    let owner : Owner = record { number = l.fn.number; place = l.fn.place } in
    l.copies.items ++ passed owner l.fn.port l.at (drop l.at l.entries) ≡ passed owner l.fn.port 0 l.entries
