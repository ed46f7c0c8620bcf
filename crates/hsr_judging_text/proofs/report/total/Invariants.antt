use Rattle.std.proofs.Common.{◌≡◌, ◌^◌, ◌-◌, min, sum, take}
use Rattle.hsr_judging_text.proofs.report.total.Given as goal

abbrev pub invariant-loop-number : goal.invariant-loop-number
invariant-loop-number l = l.total ≡ min (sum (take l.number-index l.numbers)) (2 ^ 64 - 1)
