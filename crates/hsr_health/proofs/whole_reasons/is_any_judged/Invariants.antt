use Rattle.std.proofs.Common.{◌≡◌, false, take}
use Rattle.std.specs.List.{list_any}
use Rattle.hsr_health.specs.Told.{is_judged}
use Rattle.hsr_health.proofs.whole_reasons.is_any_judged.Given as goal

-- none so far is judged
abbrev pub invariant-loop-own : goal.invariant-loop-own
invariant-loop-own l = list_any is_judged (take l.own-index l.counts) ≡ false
