use Rattle.std.proofs.Common.{◌≡◌, ◌++◌, drop}
use Rattle.hsr_node.specs.Record.{Owner}
use Rattle.hsr_timeline.specs.Hops.{passed_from}
use Rattle.hsr_timeline.proofs.copies.passed.Given as goal

abbrev pub invariant-loop-at : goal.invariant-loop-at
invariant-loop-at l =
    let owner : Owner = record { number = l.fn.number; place = l.fn.place } in
    l.copies.items ++ passed_from owner l.fn.port l.at (drop l.at l.entries) ≡ passed_from owner l.fn.port 0 l.entries
