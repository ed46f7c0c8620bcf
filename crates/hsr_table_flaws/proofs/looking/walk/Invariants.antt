use Rattle.std.proofs.Common.{reverse, take}
use Rattle.hsr_run_laws.specs.Run.{owner_of, record_of}
use Rattle.hsr_table_flaws.specs.Flaws.{IsFirstAt}
use Rattle.hsr_table_flaws.specs.Looked.{IsLogOf, forgets_of, lates_of, mistakes_of}
use Rattle.hsr_table_flaws.proofs.looking.walk.Given as goal

abbrev pub invariant-loop-i : goal.invariant-loop-i
invariant-loop-i g l = record {
  log : IsLogOf (owner_of l.closed.run l.fn.node) (reverse (take l.i (record_of l.closed.run l.fn.node))) l.log;
  forgot : IsFirstAt forgets_of l.closed.run l.fn.node l.i l.forgot;
  mistaken : IsFirstAt mistakes_of l.closed.run l.fn.node l.i l.mistaken;
  late : IsFirstAt lates_of l.closed.run l.fn.node l.i l.late;
}
