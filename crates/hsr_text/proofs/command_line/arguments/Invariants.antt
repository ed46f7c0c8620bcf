use Rattle.std.proofs.Common.{◌≡◌, map, string_bytes}
use Rattle.hsr_text.proofs.command_line.arguments.Given as goal

abbrev pub invariant-loop-word : goal.invariant-loop-word
invariant-loop-word l = map (λ s. s.now) l.words.items ≡ map (λ word. string_bytes word.now) l.yielded
