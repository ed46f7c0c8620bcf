use Rattle.std.proofs.Common.{map}
use Rattle.hsr_node.specs.Record.{Owner}
use Rattle.hsr_run_index.specs.InOrder.{copy_of_passage}
use Rattle.hsr_run_index.specs.declared.agreement.Passage.TheVariants.{Put}
use Rattle.hsr_timeline.specs.Hops.{passed_from}
use Rattle.hsr_timeline.specs.Walk.{IsWalked}
use Rattle.hsr_timeline.proofs.walk.places_walked.Given as goal

abbrev pub invariant-loop-j : goal.invariant-loop-j
invariant-loop-j l =
    let owner : Owner = record { number = l.fn.number; place = l.fn.place } in
    IsWalked (passed_from owner l.fn.port 0 l.entries) (map (copy_of_passage Put l.fn.dir) l.rows) l.from l.j l.places.items
