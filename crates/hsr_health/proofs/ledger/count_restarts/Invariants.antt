use Rattle.std.proofs.Common.{◌≡◌, length, drop}
use Rattle.hsr_health.specs.Numbering.{with_restarts}
use Rattle.hsr_health.proofs.ledger.count_restarts.Given as goal

-- with those that are left it is the whole
abbrev pub invariant-loop-restart : goal.invariant-loop-restart
invariant-loop-restart l = record {
  long : length l.numbers.items ≡ length l.fn.numbers.items;
  numbers : with_restarts (drop l.restart-index l.restarts) l.numbers.items ≡ with_restarts l.restarts l.fn.numbers.items;
}
