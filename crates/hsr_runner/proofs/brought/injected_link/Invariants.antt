use Rattle.std.proofs.Common.{◌≡◌, drop}
use Rattle.hsr_runner.specs.Brought.{first_injected}
use Rattle.hsr_runner.proofs.brought.injected_link.Given as goal

abbrev pub invariant-loop-index : goal.invariant-loop-index
invariant-loop-index l = first_injected (drop l.index l.orders) ≡ first_injected l.orders
