use Rattle.std.proofs.Common.{◌≡◌, ◌++◌, drop}
use Rattle.hsr_capture_reader.specs.Names.{interfaces_by}
use Rattle.hsr_capture_reader.proofs.names.interfaces_by.Given as goal

-- what is left tells the others
abbrev pub invariant-loop-named : goal.invariant-loop-named
invariant-loop-named l = l.all.items ++ interfaces_by l.left (drop l.named-index l.interfaces) ≡ interfaces_by l.names l.interfaces
