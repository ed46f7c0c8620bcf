use Rattle.std.proofs.Common.{◌≡◌, reverse, take}
use Rattle.hsr_run_laws.specs.Run.{owner_of, record_of}
use Rattle.hsr_table_demand.specs.Logged.{IsLogOf}
use Rattle.hsr_table_demand.specs.Walked.{walked}
use Rattle.hsr_table_demand.proofs.needing.needed_with.Given as goal

abbrev pub invariant-loop-i : goal.invariant-loop-i
invariant-loop-i g l = record {
  log : IsLogOf (owner_of l.closed.run l.fn.node) (reverse (take l.i (record_of l.closed.run l.fn.node))) l.log;
  most : l.needed ≡ walked l.closed.run l.fn.node l.fn.before l.i;
}
