use Rattle.std.proofs.Common.{◌≡◌, List, drop, length}
use Rattle.hsr_node.specs.Kept.{Receipts}
use Rattle.hsr_finished_run.specs.Reached.{AllFollow}
use Rattle.hsr_finished_run.proofs.reached.follow_passes.Given as goal

-- what is left answers for all
abbrev pub invariant-loop-i : goal.invariant-loop-i
invariant-loop-i g l = record {
  count : length l.all.items ≡ length l.fn.all.items;
  follow : (whole : List Receipts) → AllFollow l.turns whole l.passes l.fn.all.items → AllFollow l.turns whole (drop l.i l.passes) l.all.items;
}
