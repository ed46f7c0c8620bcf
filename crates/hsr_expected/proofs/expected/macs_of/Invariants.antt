use Rattle.std.proofs.Common.{◌≡◌, ◌++◌, drop}
use Rattle.hsr_expected.specs.Expected.{macs_of}
use Rattle.hsr_expected.proofs.expected.macs_of.Given as goal

-- the addresses so far, and those of what is left, are all
abbrev pub invariant-loop-i : goal.invariant-loop-i
invariant-loop-i l = l.macs.items ++ macs_of (drop l.i l.nodes) ≡ macs_of l.nodes
