use Rattle.std.proofs.Common.{◌≡◌, false, reverse, take}
use Rattle.hsr_node.specs.Record.{Each}
use Rattle.hsr_run_laws.specs.Run.{owner_of, record_of}
use Rattle.hsr_network_laws.specs.Late.{is_numbered_late}
use Rattle.hsr_number_laws.specs.Counted.{numbered_in}
use Rattle.hsr_table_flaws.specs.Clear.{AreMarked, IsNew}
use Rattle.hsr_table_flaws.proofs.clear.is_plain.Given as goal

abbrev pub invariant-loop-place : goal.invariant-loop-place
invariant-loop-place g l = record {
  marked : AreMarked (owner_of l.closed.run l.fn.node) (reverse (take l.place (record_of l.closed.run l.fn.node))) l.starts l.marks;
  once : Each (IsNew (owner_of l.closed.run l.fn.node)) (reverse (take l.place (record_of l.closed.run l.fn.node)));
  in_time : Each (λ x past. is_numbered_late (owner_of l.closed.run l.fn.node) past x.event x.outcome ≡ false) (reverse (take l.place (record_of l.closed.run l.fn.node)));
  numbers : l.numbers ≡ numbered_in (reverse (take l.place (record_of l.closed.run l.fn.node)));
}
