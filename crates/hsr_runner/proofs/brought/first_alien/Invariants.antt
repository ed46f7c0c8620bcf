use Rattle.std.proofs.Common.{◌≡◌, drop}
use Rattle.hsr_runner.specs.Brought.{first_alien}
use Rattle.hsr_runner.proofs.brought.first_alien.Given as goal

abbrev pub invariant-loop-place : goal.invariant-loop-place
invariant-loop-place l = first_alien l.fn.node (drop l.place l.entries) ≡ first_alien l.fn.node l.entries
