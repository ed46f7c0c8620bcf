use Rattle.std.proofs.Common.{◌≡◌, length}
use Rattle.hsr_capture_reader.specs.Options.{option_past}
use Rattle.hsr_capture_reader.proofs.options.option_of.Given as goal

-- what is left answers for all
abbrev pub invariant-loop-left : goal.invariant-loop-left
invariant-loop-left l = option_past 0 l.order l.code l.left ≡ option_past 0 l.order l.code l.options

abbrev pub decreases-loop-left : goal.decreases-loop-left
decreases-loop-left l = length l.left
