use Rattle.std.proofs.Common.{◌≡◌, ◌++◌, drop}
use Rattle.hsr_toml.specs.Lexing.{bare}
use Rattle.hsr_toml.specs.declared.lexing.Lexing.TheVariants as lexing
use Rattle.hsr_toml.proofs.lexing.bare.Given as goal

abbrev pub invariant-loop-b : goal.invariant-loop-b
invariant-loop-b l = l.bare.items ++ bare l.lexing (drop l.b-index l.text) ≡ bare lexing.Plain l.text
