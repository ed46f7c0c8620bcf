use Rattle.std.proofs.Common.{◌≡◌, take}
use Rattle.std.specs.Prelude.{filter}
use Rattle.hsr_health.specs.Told.{is_absent}
use Rattle.hsr_health.proofs.whole_reasons.absent_of.Given as goal

-- those so far
abbrev pub invariant-loop-mac : goal.invariant-loop-mac
invariant-loop-mac l = l.absent.items ≡ filter (is_absent l.macs l.abouts) (take l.mac-index l.expected)
