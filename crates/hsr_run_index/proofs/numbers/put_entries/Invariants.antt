use Rattle.std.proofs.Common.{◌≡◌, ℕ, take}
use Rattle.std.specs.Option.{option_or}
use Rattle.hsr_node.specs.declared.event.Probe.{Probe}
use Rattle.hsr_run_index.specs.Indexed.{given_where, number_of}
use Rattle.hsr_run_index.proofs.numbers.put_entries.Given as goal

abbrev pub invariant-loop-i : goal.invariant-loop-i
invariant-loop-i l = (k : ℕ) (p : Probe) → number_of l.given k p ≡ option_or (number_of l.fn.given k p) (given_where l.fn.node k p (take l.i l.entries))
