use Rattle.std.proofs.Common.{◌≡◌, false, take}
use Rattle.std.specs.List.{list_any}
use Rattle.std.specs.Prelude.{◌==◌}
use Rattle.hsr_health.proofs.asked.is_number_among.Given as goal

-- none so far is it
abbrev pub invariant-loop-own : goal.invariant-loop-own
invariant-loop-own l = list_any (λ j. j == l.i) (take l.own-index l.numbers) ≡ false
