use Rattle.std.proofs.Common.{◌≡◌, ◌-◌, ◌++◌, length, option_map}
use Rattle.hsr_transcript_lines.specs.Parsed.{read_macs}
use Rattle.hsr_transcript_lines.proofs.places.read_macs.Given as goal

abbrev pub invariant-loop-address : goal.invariant-loop-address
invariant-loop-address l =
    option_map (λ more. l.macs.items ++ more) (read_macs (16 - length l.macs.items) (option_map (λ s. s.now) l.left)) ≡ read_macs 16 (option_map (λ s. s.now) l.initial.left)

abbrev pub decreases-loop-address : goal.decreases-loop-address
decreases-loop-address l = 16 - length l.macs.items
