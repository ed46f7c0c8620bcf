use Rattle.std.proofs.Common.{◌≡◌, [], drop}
use Rattle.hsr_tap_passages.specs.Interfaces.{indexes_from}
use Rattle.hsr_tap_passages.proofs.interfaces.indexes_of.Given as goal

-- what is left answers for all
abbrev pub invariant-loop-interface : goal.invariant-loop-interface
invariant-loop-interface l = indexes_from l.named l.indexes.items (drop l.interface-index l.interfaces) ≡ indexes_from l.named [] l.interfaces
