use Rattle.std.proofs.Common.{◌≡◌, drop}
use Rattle.std.specs.Prelude.{reverse}
use Rattle.hsr_playback.specs.Own.{was_handed_down}
use Rattle.hsr_playback.proofs.own.was_handed_down.Given as goal

-- what is left answers for all
abbrev pub invariant-loop-j : goal.invariant-loop-j
invariant-loop-j l =
    was_handed_down l.within l.moment l.plain (drop l.j (reverse l.before)) ≡ was_handed_down l.within l.moment l.plain (reverse l.before)
