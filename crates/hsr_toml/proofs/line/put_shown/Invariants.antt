use Rattle.std.proofs.Common.{◌≡◌, ◌++◌, map, take}
use Rattle.hsr_toml.specs.Line.{shown}
use Rattle.hsr_toml.proofs.line.put_shown.Given as goal

abbrev pub invariant-loop-b : goal.invariant-loop-b
invariant-loop-b l = l.line.items ≡ l.initial.line.items ++ map shown (take l.b-index l.words)
