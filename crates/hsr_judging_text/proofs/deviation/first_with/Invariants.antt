use Rattle.std.proofs.Common.{◌≡◌, drop, find}
use Rattle.hsr_judging_text.specs.Deviations.{has_word}
use Rattle.hsr_judging_text.proofs.deviation.first_with.Given as goal

-- what is left answers for all
abbrev pub invariant-loop-deviation : goal.invariant-loop-deviation
invariant-loop-deviation l = find (has_word l.word) (drop l.deviation-index l.deviations) ≡ find (has_word l.word) l.deviations
